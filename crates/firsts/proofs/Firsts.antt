-- What the scan of `first_in_order` finds precedes all others.
use Rattle.std.proofs.Common.{◌≡◌, ℕ, ◌<◌, Bool, true, false, cond, not, ◌≢◌, List, [], ◌∷◌, length, Some, None, fold, sym, refl, ap, ◌∙◌, subst, inl, inr, Bor, map, MatchOption, Option}
use Rattle.std.specs.List.{AllByRecursion}
use Rattle.std.specs.Option.{option_map}
use Rattle.std.specs.Iterator.{ActsAsOnTwo}
use denote.Param.Members.{Mut}
use Rattle.std.proofs.lemmas.List.{nil_from_length}
use Rattle.firsts.specs.First.{better, first_in_order, In, Distinct, ExclusiveOn, TransitiveOn, IsFirst}

pub all_in : {X : Type 0} (P : X → Type 0) (xs : List X) (y : X) → AllByRecursion P xs → In y xs → P y
all_in P [] y all here = absurd here
all_in P (x ∷ xs) y all (inl e) = subst P (sym e) all.0
all_in P (x ∷ xs) y all (inr more) = all_in P xs y all.1 more

module _ {X : Type 0} (lt : X → X → Bool) (all : List X) (ex : ExclusiveOn lt all) (tr : TransitiveOn lt all) where
  -- the best of b and xs
  record Best (b : X) (xs : List X) : Type 0 where
    pub best : X
    pub is : fold (better lt) (Some b) xs ≡ Some best
    pub here : In best (b ∷ xs)
    pub over : b ≢ best → lt best b ≡ true
    pub rest : AllByRecursion (λ z. z ≢ best → lt best z ≡ true) xs

  -- the items of the part are items of the whole
  abbrev Part : List X → Type 0
  Part xs = (y : X) → In y xs → In y all

  takes : (b x : X) (xs : List X) → Part (b ∷ (x ∷ xs)) → AllByRecursion (λ y. b ≢ y) (x ∷ xs) → AllByRecursion (λ y. x ≢ y) xs → lt x b ≡ true → Best x xs → Best b (x ∷ xs)
  takes b x xs part far-b far-x e r = record {
    best = r.best;
    is = rw e r.is;
    here = inr r.here;
    over = λ ne. elim r.here [
      | inl same ↦ rw same e
      | inr more ↦ let apart : x ≢ r.best = all_in (λ y. x ≢ y) xs r.best far-x more in
          tr r.best x b (part r.best (inr (inr more))) (part x (inr (inl refl))) (part b (inl refl)) (λ q. apart (sym q)) (λ q. far-b.0 (sym q)) (λ q. ne (sym q)) (r.over apart) e
    ];
    rest = (r.over, r.rest);
  }

  keeps : (b x : X) (xs : List X) → Part (b ∷ (x ∷ xs)) → AllByRecursion (λ y. b ≢ y) (x ∷ xs) → lt x b ≡ false → Best b xs → Best b (x ∷ xs)
  keeps b x xs part far-b e r =
      let beaten : lt b x ≡ true = ex x b (part x (inr (inl refl))) (part b (inl refl)) (λ q. far-b.0 (sym q)) ∙ ap not e in
      record {
        best = r.best;
        is = rw e r.is;
        here = elim r.here [ inl same ↦ inl same | inr more ↦ inr (inr more) ];
        over = r.over;
        rest = (
          λ ne. elim r.here [
            | inl same ↦ rw same beaten
            | inr more ↦ let apart : b ≢ r.best = all_in (λ y. b ≢ y) xs r.best far-b.1 more in
                tr r.best b x (part r.best (inr (inr more))) (part b (inl refl)) (part x (inr (inl refl))) (λ q. apart (sym q)) far-b.0 (λ q. ne (sym q)) (r.over apart) beaten
          ],
          r.rest,
        );
      }

  finds : (b : X) (xs : List X) → Part (b ∷ xs) → AllByRecursion (λ y. b ≢ y) xs → Distinct xs → Best b xs
  finds b [] part far apart = record { best = b; is = refl; here = inl refl; over = λ ne. absurd (ne refl); rest = tt }
  finds b (x ∷ xs) part far apart =
      let P : Bool → Type 0 = λ v. lt x b ≡ v → Best b (x ∷ xs) in
      (elim (lt x b) as P [
        | true ↦ λ e. takes b x xs part far apart.0 e (finds x xs (λ y h. part y (inr h)) apart.0 apart.1)
        | false ↦ λ e. keeps b x xs part far e (finds b xs (λ y h. elim h [ inl same ↦ part y (inl same) | inr more ↦ part y (inr (inr more)) ]) far.1 apart.1)
      ]) refl

  leads_from : (xs : List X) → Part xs → Distinct xs → IsFirst lt xs (first_in_order lt xs)
  leads_from [] part apart = refl
  leads_from (x ∷ xs) part apart = let r = finds x xs part apart.0 apart.1 in rw r.is (r.here, (r.over, r.rest))

pub first_leads : {X : Type 0} (lt : X → X → Bool) (xs : List X) → Distinct xs → ExclusiveOn lt xs → TransitiveOn lt xs → IsFirst lt xs (first_in_order lt xs)
first_leads lt xs apart ex tr = leads_from lt xs ex tr xs (λ y h. h) apart

-- whatever the order, what the scan finds is an item of the list
scanned_in : {X : Type 0} (lt : X → X → Bool) (b y : X) (xs : List X) → fold (better lt) (Some b) xs ≡ Some y → In y (b ∷ xs)
scanned_in lt b y [] e = let same : b ≡ y = cc in inl (sym same)
scanned_in lt b y (x ∷ xs) e =
    let P : Bool → Type 0 = λ v. fold (better lt) (Some (cond v x b)) xs ≡ Some y → In y (b ∷ (x ∷ xs)) in
    (elim (lt x b) as P [
      | true ↦ λ h. inr (scanned_in lt x y xs h)
      | false ↦ λ h. elim (scanned_in lt b y xs h) [ inl same ↦ inl same | inr more ↦ inr (inr more) ]
    ]) e

pub first_in : {X : Type 0} (lt : X → X → Bool) (y : X) (xs : List X) → first_in_order lt xs ≡ Some y → In y xs
first_in lt y [] e = absurd (cc)
first_in lt y (x ∷ xs) e = scanned_in lt x y xs e

-- the scan of lent items: the better of two
module _ {X : Type 0} (lt : X → X → Bool) where
  abbrev pub better_lent : Bor X → Bor X → Bor X
  better_lent b x = cond (lt x.now b.now) x b

  better_now : (b x : Bor X) → better lt (Some b.now) x.now ≡ Some (better_lent b x).now
  better_now b x = elim (lt x.now b.now) as (λ v. ◌≡◌ {A = Option X} (Some (cond v x.now b.now)) (Some (cond v x b).now)) [ true ↦ refl | false ↦ refl ]

  scanned : (b : Bor X) (xs : List (Bor X)) → fold (better lt) (Some b.now) (map (λ x. x.now) xs) ≡ Some (fold better_lent b xs).now
  scanned b [] = refl
  scanned b (x ∷ xs) = ap (λ o. fold (better lt) o (map (λ y. y.now) xs)) (better_now b x) ∙ scanned (better_lent b x) xs

  -- what `reduce` finds among them
  pub first_reduced : {F : Type 0} (items : List X) (g : Mut F (Bor X × (Bor X × Unit {0})) (Bor X)) (f : F) (r : Option (Bor X)) (n : ℕ) (lent : List (Bor X))
      → n ≡ length lent → map (λ x. x.now) lent ≡ items
      → MatchOption r (n ≡ 0) (λ y. (0 < n) × ((x : Bor X) × (xs : List (Bor X)) × (lent ≡ x ∷ xs) × ((h : Bor X → Bor X → Bor X) → ActsAsOnTwo g f h → y ≡ fold h x xs)))
      → ActsAsOnTwo g f better_lent → option_map (λ x. x.now) r ≡ first_in_order lt items
  first_reduced items g f None n lent long now found acts =
      ap (first_in_order lt) (sym (ap (map (λ x. x.now)) (nil_from_length lent (sym long ∙ found))) ∙ now)
  first_reduced items g f (Some y) n lent long now found acts =
      ap (λ z. Some z.now) (found.1.3 better_lent acts) ∙ sym (scanned found.1.0 found.1.1) ∙ ap (first_in_order lt) (sym (ap (map (λ x. x.now)) found.1.2) ∙ now)
