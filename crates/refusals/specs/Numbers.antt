-- Every refusal's number, its place in a table text where it has one, and the task that it names.
use Rattle.std.specs.Prelude.{ℕ, Some, None, Option}
use Rattle.refusals.specs.declared.kinds.AddRefusal.{AddRefusal}
use Rattle.refusals.specs.declared.kinds.AddRefusal.TheVariants.{TableFull, TimesOutOfBounds, PrioritiesOutOfBounds, HyperperiodTooLong}
use Rattle.refusals.specs.declared.kinds.RecordFault.TheVariants as fault
use Rattle.refusals.specs.declared.kinds.ReadRefusal.{ReadRefusal}
use Rattle.refusals.specs.declared.kinds.ReadRefusal.TheVariants.{TextTooLong, OtherHeader, Record}
use Rattle.refusals.specs.declared.kinds.SetRefusal.TheVariants as set
use Rattle.refusals.specs.declared.kinds.QuestionRefusal.TheVariants.{NoSuchTask}
use Rattle.refusals.specs.declared.kinds.TickRefusal.TheVariants.{RunEnded}
use Rattle.refusals.specs.declared.kinds.FinishRefusal.TheVariants as finish
use Rattle.refusals.specs.declared.kinds.LaxityRefusal.TheVariants.{NoResponse}
use Rattle.refusals.specs.declared.kinds.WriteRefusal.TheVariants.{BufferTooShort}
use Rattle.refusals.specs.declared.kinds.Refusal.{Refusal}
use Rattle.refusals.specs.declared.kinds.Refusal.TheVariants.{Reading, Adding, Setting, Asking, Ticking, Finishing, Laxity, Writing}
use Rattle.refusals.specs.declared.kinds.Place.{Place}

-- a refused adding has the same number whether a call or a text asked for it
abbrev pub adding_number : AddRefusal → ℕ
adding_number TableFull = 5
adding_number TimesOutOfBounds = 6
adding_number PrioritiesOutOfBounds = 7
adding_number HyperperiodTooLong = 8

abbrev pub number_of : Refusal → ℕ
number_of (Reading TextTooLong) = 1
number_of (Reading OtherHeader) = 2
number_of (Reading (Record (fault.Field f))) = 3
number_of (Reading (Record (fault.Shape row))) = 4
number_of (Reading (Record (fault.Adding row e))) = adding_number e
number_of (Adding e) = adding_number e
number_of (Setting set.NoSuchTask) = 9
number_of (Setting set.PromotionOutOfBounds) = 7
number_of (Asking NoSuchTask) = 9
number_of (Ticking RunEnded) = 11
number_of (Finishing finish.RunEnded) = 11
number_of (Finishing finish.NoSuchTask) = 9
number_of (Finishing finish.NotReady) = 10
number_of (Laxity (NoResponse i)) = 12
number_of (Writing BufferTooShort) = 13

-- the header is record 1; field 0 stands for the whole record, record 0 for the whole text
abbrev pub reading_place : ReadRefusal → Place
reading_place TextTooLong = record { row = 0; field = 0 }
reading_place OtherHeader = record { row = 1; field = 0 }
reading_place (Record (fault.Field f)) = record { row = f.row; field = f.field }
reading_place (Record (fault.Shape row)) = record { row = row; field = 0 }
reading_place (Record (fault.Adding row e)) = record { row = row; field = 0 }

abbrev pub place_of : Refusal → Option Place
place_of (Reading e) = Some (reading_place e)
place_of (Adding e) = None
place_of (Setting e) = None
place_of (Asking e) = None
place_of (Ticking e) = None
place_of (Finishing e) = None
place_of (Laxity e) = None
place_of (Writing e) = None

-- the task that a refusal is about, where it names one
abbrev pub task_of : Refusal → Option ℕ
task_of (Reading e) = None
task_of (Adding e) = None
task_of (Setting e) = None
task_of (Asking e) = None
task_of (Ticking e) = None
task_of (Finishing e) = None
task_of (Laxity (NoResponse i)) = Some i
task_of (Writing e) = None
