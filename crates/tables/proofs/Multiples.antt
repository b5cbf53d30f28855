-- The hyperperiod of a list of tasks: each period divides it, it is least, and it grows with the list.
use Rattle.std.proofs.Common.{◌≡◌, ℕ, zero, suc, ◌+◌, ◌<◌, ◌≤◌, List, [], ◌∷◌, ◌++◌, length, get_or, take, drop, set, fold, sym, refl, ap, ◌∙◌, arith}
use Prim.Native.Nat.{◌∣◌}
use native.Mathlib.Nat.{dvd_refl, dvd_trans, le_of_dvd, one-dvd, pos_of_dvd_of_pos}
use Rattle.std.proofs.lemmas.List.{take-append-drop}
use Rattle.std.proofs.lemmas.Grind.{common_steps}
use Rattle.tables.specs.Divisors.{lcm}
use Rattle.tables.specs.Tasks.{Each, nobody}
use Rattle.tables.specs.Hyperperiod.{hyperperiod_of, CommonMultiple, LeastCommonMultiple}
use Rattle.tables.specs.declared.task.Task.{Task}
use Rattle.tables.proofs.Divides.{dvd_lcm_left, dvd_lcm_right, lcm_pos, lcm_least}

abbrev pub from : ℕ → List Task → ℕ
from h xs = fold (λ h x. lcm h x.t) h xs

pub start_divides : (h : ℕ) (xs : List Task) → h ∣ from h xs
start_divides h [] = dvd_refl h
start_divides h (x ∷ xs) = dvd_trans h (dvd_lcm_left h x.t) (start_divides (lcm h x.t) xs)

pub each_divides : (h : ℕ) (xs : List Task) → CommonMultiple xs (from h xs)
each_divides h [] k l = let z : ⊥ = omega arith in absurd z
each_divides h (x ∷ xs) zero l = dvd_trans x.t (dvd_lcm_right h x.t) (start_divides (lcm h x.t) xs)
each_divides h (x ∷ xs) (suc k) l = each_divides (lcm h x.t) xs k (omega arith)

abbrev pub Positive : List Task → Type 0
Positive xs = Each (λ x. 0 < x.t) xs

pub from_pos : (h : ℕ) (xs : List Task) → 0 < h → Positive xs → 0 < from h xs
from_pos h [] p all = p
from_pos h (x ∷ xs) p all = from_pos (lcm h x.t) xs (lcm_pos h x.t p (all 0 (omega arith))) (λ k l. all (suc k) (omega arith))

pub from_least : (h m : ℕ) (xs : List Task) → 0 < h → Positive xs → h ∣ m → CommonMultiple xs m → from h xs ∣ m
from_least h m [] p all d each = d
from_least h m (x ∷ xs) p all d each =
    from_least (lcm h x.t) m xs (lcm_pos h x.t p (all 0 (omega arith))) (λ k l. all (suc k) (omega arith)) (lcm_least h x.t m p d (each 0 (omega arith))) (λ k l. each (suc k) (omega arith))

from_append : (h : ℕ) (xs ys : List Task) → from h (xs ++ ys) ≡ from (from h xs) ys
from_append h xs ys = grind (arith, common_steps)

pub hyper_nil : hyperperiod_of [] ≡ 1
unfolding hyperperiod_of
hyper_nil = refl

pub hyper_push : (xs : List Task) (x : Task) → hyperperiod_of (xs ++ x ∷ []) ≡ lcm (hyperperiod_of xs) x.t
unfolding hyperperiod_of
hyper_push xs x = grind (arith, common_steps)

pub hyper_more : (xs : List Task) (i : ℕ) → i < length xs → hyperperiod_of (take (i + 1) xs) ≡ lcm (hyperperiod_of (take i xs)) (get_or xs i nobody).t
unfolding hyperperiod_of
hyper_more xs i h = grind (arith, common_steps)

pub hyper_pos : (xs : List Task) → Positive xs → 0 < hyperperiod_of xs
unfolding hyperperiod_of
hyper_pos xs all = from_pos 1 xs (omega arith) all

pub hyper_least : (xs : List Task) → Positive xs → LeastCommonMultiple xs (hyperperiod_of xs)
unfolding hyperperiod_of
hyper_least xs all = (each_divides 1 xs, λ m each. from_least 1 m xs (omega arith) all (one-dvd m) each)

pub hyper_front : (xs : List Task) (i : ℕ) → Positive xs → (0 < hyperperiod_of (take i xs)) × (hyperperiod_of (take i xs) ≤ hyperperiod_of xs)
unfolding hyperperiod_of
hyper_front xs i all =
    let e : from 1 xs ≡ from (from 1 (take i xs)) (drop i xs) = ap (from 1) (sym (take-append-drop i xs)) ∙ from_append 1 (take i xs) (drop i xs) in
    let d : from 1 (take i xs) ∣ from 1 xs = rw e (start_divides (from 1 (take i xs)) (drop i xs)) in
    let p = from_pos 1 xs (omega arith) all in
    (pos_of_dvd_of_pos d p, le_of_dvd p d)

-- a task of the same period in the place of another
from_set : (h : ℕ) (xs : List Task) (i : ℕ) (x : Task) → i < length xs → x.t ≡ (get_or xs i nobody).t → from h (set xs i x) ≡ from h xs
from_set h [] i x l e = let z : ⊥ = omega arith in absurd z
from_set h (y ∷ ys) zero x l e = ap (λ t. from (lcm h t) ys) e
from_set h (y ∷ ys) (suc i) x l e = from_set (lcm h y.t) ys i x (omega arith) e

pub hyper_set : (xs : List Task) (i : ℕ) (x : Task) → i < length xs → x.t ≡ (get_or xs i nobody).t → hyperperiod_of (set xs i x) ≡ hyperperiod_of xs
unfolding hyperperiod_of
hyper_set xs i x l e = from_set 1 xs i x l e
