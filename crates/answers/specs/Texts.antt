-- The text that an answer is printed as: two records of seven fields, both ended by carriage return and line feed.
use Rattle.std.specs.Prelude.{ℕ, List, [], ◌∷◌, ◌++◌, Some, None, Ok, Err, codes, decimal, Option}
use Rattle.refusals.specs.declared.kinds.ReadRefusal.{ReadRefusal}
use Rattle.refusals.specs.declared.kinds.Refusal.TheVariants.{Reading}
use Rattle.refusals.specs.Numbers.{number_of, reading_place}
use Rattle.schedules.specs.declared.verdict.Verdict.{Verdict}
use Rattle.schedules.specs.declared.verdict.Verdict.TheVariants as verdict
use Rattle.answers.specs.declared.columns.Word.{Word}
use Rattle.answers.specs.declared.columns.Word.TheVariants.{Holds, Miss, Refused}
use Rattle.answers.specs.declared.columns.Columns.{Columns}
use Rattle.answers.specs.Answers.{Answer}

abbrev pub line_end : List ℕ
line_end = 13 ∷ 10 ∷ []

abbrev pub header_text : List ℕ
header_text = codes "answer,task,instant,hyperperiod,refusal,record,field" ++ line_end

abbrev pub word_text : Word → List ℕ
word_text Holds = codes "holds"
word_text Miss = codes "miss"
word_text Refused = codes "refused"

-- the fields of the record that tells of a table, by its hyperperiod and its verdict
abbrev pub judged_columns : ℕ → Verdict → Columns
judged_columns h verdict.Holds =
    record { word = Holds; task = None; instant = None; hyperperiod = Some h; refusal = None; row = None; field = None }
judged_columns h (verdict.Misses x) =
    record { word = Miss; task = Some x.task; instant = Some x.instant; hyperperiod = Some h; refusal = None; row = None; field = None }

-- the fields of the record that tells why a text is not a table's
abbrev pub refused_columns : ReadRefusal → Columns
refused_columns e =
    record { word = Refused; task = None; instant = None; hyperperiod = None; refusal = Some (number_of (Reading e)); row = Some (reading_place e).row; field = Some (reading_place e).field }

-- the seven fields of an answer's record; what does not apply is left empty
abbrev pub columns_of : Answer → Columns
columns_of (Ok j) = judged_columns j.hyperperiod j.verdict
columns_of (Err e) = refused_columns e

-- a comma and, behind it, the number in decimal digits if there is one
abbrev pub column : Option ℕ → List ℕ
column None = 44 ∷ []
column (Some n) = 44 ∷ decimal n

unfoldable pub columns_text : Columns → List ℕ
columns_text c =
    word_text c.word ++ (column c.task ++ (column c.instant ++ (column c.hyperperiod
    ++ (column c.refusal ++ (column c.row ++ (column c.field ++ line_end))))))

abbrev pub answer_text : Answer → List ℕ
answer_text a = header_text ++ columns_text (columns_of a)
