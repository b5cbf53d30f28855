-- The words that a command is made of, and the commands that they make.
use Rattle.std.specs.Prelude.{ℕ, cond, List, [], ◌∷◌, ◌++◌, Some, None, Ok, Err, codes, Option, Result}
use Rattle.std.specs.Option.{ok_or, option_map}
use Rattle.std.specs.Str.{bytes_eq}
use Rattle.desk.specs.declared.naming.Base.{Base}
use Rattle.desk.specs.declared.naming.Base.TheVariants.{Fixed, Deadline, TwoPhase}
use Rattle.desk.specs.declared.naming.Named.{Named}
use Rattle.desk.specs.declared.naming.Named.TheVariants.{Plain, Promotion, Background}
use Rattle.desk.specs.declared.commands.Command.{Command}
use Rattle.desk.specs.declared.commands.Command.TheVariants as command
use Rattle.desk.specs.declared.commands.Expected.{Expected}
use Rattle.desk.specs.declared.commands.Expected.TheVariants.{ACommand, AnOrdering, ABase, NoMore}

abbrev pub base_text : Base → List ℕ
base_text Fixed = codes "fixed"
base_text Deadline = codes "deadline"
base_text TwoPhase = codes "two-phase"

unfoldable pub promotion_text : Base → List ℕ
promotion_text b = codes "promotion-over-" ++ base_text b

unfoldable pub background_text : Base → List ℕ
background_text b = codes "background-over-" ++ base_text b

-- the name of an ordering
abbrev pub named_text : Named → List ℕ
named_text (Plain b) = base_text b
named_text (Promotion b) = promotion_text b
named_text (Background b) = background_text b

abbrev pub all_named : List Named
all_named =
    Plain Fixed ∷ Plain Deadline ∷ Plain TwoPhase
    ∷ Promotion Fixed ∷ Promotion Deadline ∷ Promotion TwoPhase
    ∷ Background Fixed ∷ Background Deadline ∷ Background TwoPhase ∷ []

-- the first ordering of a list that has this name
abbrev pub named_in : List Named → List ℕ → Option Named
named_in [] word = None
named_in (n ∷ ns) word = cond (bytes_eq word (named_text n)) (Some n) (named_in ns word)

-- the ordering of a name
unfoldable pub named_of : List ℕ → Option Named
named_of word = named_in all_named word

abbrev pub base_by : Option Named → Option Base
base_by (Some (Plain b)) = Some b
base_by (Some (Promotion b)) = None
base_by (Some (Background b)) = None
base_by None = None

-- the ordering of a name, where it stands on no other
abbrev pub base_of : List ℕ → Option Base
base_of word = base_by (named_of word)

-- the one word of a list that has no other
abbrev pub only_word : List (List ℕ) → Option (List ℕ)
only_word [] = None
only_word (w ∷ []) = Some w
only_word (w ∷ v ∷ ws) = None

abbrev pub verdict_by : Option (List ℕ) → Result Command Expected
verdict_by None = Err AnOrdering
verdict_by (Some w) = ok_or (option_map command.Verdict (named_of w)) AnOrdering

-- behind `verdict` stands one ordering
abbrev pub verdict_command : List (List ℕ) → Result Command Expected
verdict_command ws = verdict_by (only_word ws)

abbrev pub search_by : Option (List ℕ) → Result Command Expected
search_by None = Err ABase
search_by (Some w) = ok_or (option_map command.Search (base_of w)) ABase

-- behind `search` stands one ordering that stands on no other
abbrev pub search_command : List (List ℕ) → Result Command Expected
search_command ws = search_by (only_word ws)

-- behind `laxity` and `background` stands nothing
abbrev pub lone_command : Command → List (List ℕ) → Result Command Expected
lone_command c [] = Ok c
lone_command c (w ∷ ws) = Err NoMore

abbrev pub command_behind : List ℕ → List (List ℕ) → Result Command Expected
command_behind w ws =
    cond (bytes_eq w (codes "verdict")) (verdict_command ws)
    (cond (bytes_eq w (codes "search")) (search_command ws)
    (cond (bytes_eq w (codes "laxity")) (lone_command command.Laxity ws)
    (cond (bytes_eq w (codes "background")) (lone_command command.Background ws)
    (Err ACommand))))

-- the command of these words, or what is expected in their place
abbrev pub command_by : List (List ℕ) → Result Command Expected
command_by [] = Err ACommand
command_by (w ∷ ws) = command_behind w ws

-- what is expected, in words
unfoldable pub expected_text : Expected → List ℕ
expected_text ACommand = codes "expected a command: verdict ORDERING, search ORDERING, laxity or background"
expected_text AnOrdering = codes "expected one ordering: fixed, deadline or two-phase, alone or behind promotion-over- or background-over-"
expected_text ABase = codes "expected one ordering: fixed, deadline or two-phase"
expected_text NoMore = codes "expected no word behind laxity or background"
