-- A run's memory and the state that it stands for.
use Rattle.std.proofs.Common.{◌≡◌, ℕ, ◌+◌, ◌<◌, ◌≤◌, Bool, true, false, List, ◌++◌, map, length, get_or, take, drop, is_some, Some, None, Option, sym, refl, ap, ◌∙◌, subst, arith}
use Rattle.std.proofs.lemmas.List.{length-take-le, length-drop, length-append, get_or-take, take_at, length-map, ext_get_or, get_or-map}
use Rattle.std.proofs.lemmas.Bool.{false≢true, true≢false}
use Rattle.std.proofs.lemmas.Bool.Decides.{nat_tests}
use Rattle.tables.specs.declared.task.Task.{Task}
use Rattle.tables.specs.Tasks.{nobody, Each, Timed}
use Rattle.schedules.specs.declared.slot.Slot.{Slot}
use Rattle.schedules.specs.declared.slot.Progress.{Progress}
use Rattle.schedules.specs.Units.{nothing, at, older, missed, renew, renewed, released}
use Rattle.schedules.specs.Runs.{state_of, Young, closed, advanced}
use Rattle.schedules.proofs.Slots.{older_at, renewed_at, renewed_length}
use Rattle.schedules.proofs.Picks.{Counted}

closed_is : (ts : List Task) (ss : List Slot) (miss : Option ℕ) → closed ts ss miss ≡ record { slots = (closed ts ss miss).slots; ended = is_some miss }
closed_is ts ss None = refl
closed_is ts ss (Some k) = refl

renew_young : (t : Task) (s : Slot) → 1 ≤ t.t → s.age ≤ t.t → (renew t s).age < t.t
renew_young t s one le = grind (arith, nat_tests)

closed_length : (ts : List Task) (ss : List Slot) (o : Option ℕ) → length (closed ts ss o).slots ≡ length ss
closed_length ts ss None = renewed_length ts ss
closed_length ts ss (Some k) = refl

module _ (ts : List Task) (p : Progress) (few : length ts ≤ 32) (wide : length p.slots ≡ 32) where
  pub view_length : length (take (length ts) p.slots) ≡ length ts
  view_length = length-take-le (length ts) p.slots (omega arith)

  pub view_at : (k : ℕ) → k < length ts → at (take (length ts) p.slots) k ≡ at p.slots k
  view_at k h = get_or-take (length ts) p.slots k nothing h

-- a run that goes on
pub record GoesOn (ts : List Task) (p : Progress) : Type 0 where
  pub few : length ts ≤ 32
  pub timed : Each Timed ts
  pub wide : length p.slots ≡ 32
  pub young : Young ts p
  pub on : p.ended ≡ false

module _ {ts : List Task} {p : Progress} (u : GoesOn ts p) where
  age_below : (k : ℕ) → k < length ts → (at (take (length ts) p.slots) k).age + 1 ≤ (get_or ts k nobody).t
  age_below k h = let y = u.young u.on k h in let e = ap (λ s. s.age) (view_at ts p u.few u.wide k h) in omega arith

  pub counted : Counted (take (length ts) p.slots)
  counted =
      let n = view_length ts p u.few u.wide in
      record {
        few = let few = u.few in omega arith;
        aged = λ k h. let h' : k < length ts = omega arith in let y = age_below k h' in let t = u.timed k h' in omega arith;
      }

-- where a task missed, or none has come to its period, nothing is released
pub closed_missed : (ts : List Task) (ss : List Slot) (o : Option ℕ) → is_some o ≡ true → (closed ts ss o).slots ≡ ss
closed_missed ts ss None e = absurd (false≢true e)
closed_missed ts ss (Some k) e = refl

pub closed_same : (ts : List Task) (ss : List Slot) (o : Option ℕ) → renewed ts ss ≡ ss → (closed ts ss o).slots ≡ ss
closed_same ts ss None e = e
closed_same ts ss (Some k) e = refl

pub closed_renewed : (ts : List Task) (ss : List Slot) (o : Option ℕ) → is_some o ≡ false → (closed ts ss o).slots ≡ renewed ts ss
closed_renewed ts ss None e = refl
closed_renewed ts ss (Some k) e = absurd (true≢false e)

-- the second half of a unit on a run's front slots; ts' is the table's list as the code had it
pub record Advancing (ts ts' : List Task) (p : Progress) (slots : List Slot) (ended : Bool) : Type 0 where
  pub going : GoesOn ts p
  pub same : ts' ≡ ts
  pub after : slots ≡ (advanced ts' (take (length ts') p.slots)).slots ++ drop (length ts') p.slots
  pub ends : ended ≡ is_some (missed ts' (map older (take (length ts') p.slots)))

module _ {ts ts' : List Task} {p : Progress} {slots : List Slot} {ended : Bool} (u : Advancing ts ts' p slots ended) where
  after_is : slots ≡ (advanced ts (take (length ts) p.slots)).slots ++ drop (length ts) p.slots
  after_is = u.after ∙ ap (λ t. (advanced t (take (length t) p.slots)).slots ++ drop (length t) p.slots) u.same

  ends_is : ended ≡ is_some (missed ts (map older (take (length ts) p.slots)))
  ends_is = u.ends ∙ ap (λ t. is_some (missed t (map older (take (length t) p.slots)))) u.same

  front_length : length (advanced ts (take (length ts) p.slots)).slots ≡ length ts
  front_length = closed_length ts (map older (take (length ts) p.slots)) _ ∙ length-map (take (length ts) p.slots) older ∙ view_length ts p u.going.few u.going.wide

  pub advanced_wide : length slots ≡ 32
  advanced_wide =
      let few = u.going.few in
      let wide = u.going.wide in
      let n = front_length in
      omega (arith, ap length after_is, length-append (advanced ts (take (length ts) p.slots)).slots (drop (length ts) p.slots), length-drop (length ts) p.slots)

  front_is : take (length ts) slots ≡ (advanced ts (take (length ts) p.slots)).slots
  front_is = ap (take (length ts)) after_is ∙ take_at _ _ (length ts) front_length

  pub advanced_state : state_of ts (record { slots = slots; ended = ended }) ≡ advanced ts (take (length ts) p.slots)
  advanced_state = rw (ends_is, front_is) (sym (closed_is ts (map older (take (length ts) p.slots)) (missed ts (map older (take (length ts) p.slots)))))

  pub advanced_young : Young ts (record { slots = slots; ended = ended })
  advanced_young on k h =
      let ss = take (length ts) p.slots in
      let n = view_length ts p u.going.few u.going.wide in
      let n' : length (map older ss) ≡ length ts = length-map ss older ∙ n in
      let here : take (length ts) slots ≡ renewed ts (map older ss) = front_is ∙ closed_renewed ts (map older ss) _ (sym ends_is ∙ on) in
      let a : at slots k ≡ at (take (length ts) slots) k = sym (get_or-take (length ts) slots k nothing h) in
      let b : at (renewed ts (map older ss)) k ≡ renew (get_or ts k nobody) (at (map older ss) k) = renewed_at ts (map older ss) k (omega arith) in
      let c : (at (map older ss) k).age ≡ (at ss k).age + 1 = ap (λ s. s.age) (older_at ss k (omega arith)) in
      let t = u.going.timed k h in
      let y = age_below u.going k h in
      let done : (renew (get_or ts k nobody) (at (map older ss) k)).age < (get_or ts k nobody).t = renew_young (get_or ts k nobody) (at (map older ss) k) (omega arith) (omega arith) in
      subst (λ s. s.age < (get_or ts k nobody).t) (sym (a ∙ ap (λ l. at l k) here ∙ b)) done

pub new_state : (ts ts' : List Task) (slots : List Slot) → ts' ≡ ts → length ts ≤ 32 → length slots ≡ 32 → ((k : ℕ) → k < length ts' → at slots k ≡ released (get_or ts' k nobody)) → take (length ts) slots ≡ map released ts
new_state ts ts' slots same few wide each =
    let l : length ts' ≡ length ts = ap length same in
    let v = length-take-le (length ts) slots (omega arith) in
    ext_get_or nothing (take (length ts) slots) (map released ts) (v ∙ sym (length-map ts released))
    (λ k h. get_or-take (length ts) slots k nothing (omega arith) ∙ each k (omega arith) ∙ ap (λ t. released (get_or t k nobody)) same ∙ sym (get_or-map released ts k nobody nothing (omega arith)))
