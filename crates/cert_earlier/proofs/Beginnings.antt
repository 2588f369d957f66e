-- Members of a set of lists that are kept by what they begin with.
use Rattle.std.specs.Prelude.{◌≡◌, ◌↔◌, ◌⊎◌, ℕ, ◌+◌, ◌<◌, ◌≤◌, Bool, true, false, cond, List, [], ◌∷◌, ◌++◌, map, flat_map, length, slice_get, Option, None, Some, Result, Ok, Err, OnOk, IsSome, is_some, IsTrue, IfSome, Vec, refl}
use Rattle.std.specs.HashMap.{keys, get, Updates}
use Rattle.std.specs.List.{Contains}
use Rattle.std.proofs.Common.{sym, ◌∙◌, ap, subst, inl, inr, arith, get_or, take, Bor}
use Rattle.std.proofs.lemmas.List.{map-append, take_more, take_all}
use Rattle.std.proofs.lemmas.List.Elements.{Contains-append_left, Contains-append_right, Contains-append_cases, Contains-push, Contains-push_cases}
use Rattle.std.proofs.lemmas.Map.Views.{Contains-keys_from_lookup, tells_apart}
use Rattle.base_values.proofs.Bools.{split}
use Rattle.aud_witness.specs.declared.decision.Decision.{Decision}
use Rattle.aud_witness.specs.DecisionOrder.{prefix_exact}
use Rattle.aud_order.specs.Shapes.{ShapeOf}
use Rattle.cert_earlier.specs.declared.earlier.Noted.{Noted}
use Rattle.cert_earlier.specs.declared.landing.Landing.{Landing}
use Rattle.cert_earlier.specs.Landings.{IsLandingOf}
use Rattle.cert_earlier.specs.Beginnings.{EarlierOf, Table, all_of, noted, decisions_of, IsNoted, extended, prefixes_of, IsLandedAt, AreLanded, IsFoundAmong, IsNotedAlone, IsNotedBeside}
use Rattle.cert_earlier.proofs.Keys.{lists_eq, lists-same}

-- # Lists

-- a list of one has that one alone
one-of : {X : Type 0} (x y : X) → Contains (x ∷ []) y → x ≡ y
one-of x y there = elim (Contains-push_cases [] x y there) [
  | inl none ↦ absurd (omega (arith, none.1))
  | inr same ↦ same
]

mapped : {X Y : Type 0} (f : X → Y) (xs : List X) (x : X) → Contains xs x → Contains (map f xs) (f x)
mapped f [] x there = absurd (omega (arith, there.1))
mapped f (y ∷ xs) x there = elim (Contains-append_cases (y ∷ []) xs x there) [
  | inl first ↦ Contains-append_left (f y ∷ []) (map f xs) (f x) (subst (λ z. Contains (f y ∷ []) (f z)) (one-of y x first) (Contains-push [] (f y)))
  | inr later ↦ Contains-append_right (f y ∷ []) (map f xs) (f x) (mapped f xs x later)
]

of-mapped : {X Y : Type 0} (f : X → Y) (xs : List X) (y : Y) → Contains (map f xs) y → (x : X) × Contains xs x × (y ≡ f x)
of-mapped f [] y there = absurd (omega (arith, there.1))
of-mapped f (x ∷ xs) y there = elim (Contains-append_cases (f x ∷ []) (map f xs) y there) [
  | inl first ↦ (x, Contains-append_left (x ∷ []) xs x (Contains-push [] x), sym (one-of (f x) y first))
  | inr later ↦ let (z, in', is) = of-mapped f xs y later in (z, Contains-append_right (x ∷ []) xs z in', is)
]

joined : {X Y : Type 0} (f : X → List Y) (xs : List X) (x : X) (y : Y) → Contains xs x → Contains (f x) y → Contains (flat_map f xs) y
joined f [] x y there has = absurd (omega (arith, there.1))
joined f (z ∷ xs) x y there has = elim (Contains-append_cases (z ∷ []) xs x there) [
  | inl first ↦ Contains-append_left (f z) (flat_map f xs) y (subst (λ w. Contains (f w) y) (sym (one-of z x first)) has)
  | inr later ↦ Contains-append_right (f z) (flat_map f xs) y (joined f xs x y later has)
]

of-joined : {X Y : Type 0} (f : X → List Y) (xs : List X) (y : Y) → Contains (flat_map f xs) y → (x : X) × Contains xs x × Contains (f x) y
of-joined f [] y there = absurd (omega (arith, there.1))
of-joined f (x ∷ xs) y there = elim (Contains-append_cases (f x) (flat_map f xs) y there) [
  | inl first ↦ (x, Contains-append_left (x ∷ []) xs x (Contains-push [] x), first)
  | inr later ↦ let (z, in', has) = of-joined f xs y later in (z, Contains-append_right (x ∷ []) xs z in', has)
]

-- a list is empty or has a last element
ends : (q : List Decision) → (q ≡ []) ⊎ ((p : List Decision) × (d : Decision) × (q ≡ p ++ d ∷ []))
ends [] = inl refl
ends (x ∷ q) = elim (ends q) [
  | inl none ↦ inr ([], x, ap (λ (l : List Decision). x ∷ l) none)
  | inr last ↦ inr (x ∷ last.0, last.1, ap (λ (l : List Decision). x ∷ l) last.2)
]

not-empty : (p : List Decision) (d : Decision) → [] ≡ p ++ d ∷ [] → ⊥
not-empty [] d e = cc
not-empty (x ∷ p) d e = cc

-- lists with a last element each that are the same
pub same-parts : (p q : List Decision) (d e : Decision) → p ++ d ∷ [] ≡ q ++ e ∷ [] → (p ≡ q) × (d ≡ e)
same-parts [] [] d e is = (refl, cc)
same-parts [] (y ∷ q) d e is = let none : [] ≡ q ++ e ∷ [] = cc in absurd (not-empty q e none)
same-parts (x ∷ p) [] d e is = let none : p ++ d ∷ [] ≡ [] = cc in absurd (not-empty p d (sym none))
same-parts (x ∷ p) (y ∷ q) d e is =
    let head : x ≡ y = cc in
    let rest = same-parts p q d e (cc) in ((λ i. head i ∷ rest.0 i), rest.1)

-- # The lists of a table

kept : (b : Bool) (q : List Decision) → Contains (cond b ([] ∷ []) []) q → (b ≡ true) × (q ≡ [])
kept true q there = (refl, sym (one-of [] q there))
kept false q there = absurd (omega (arith, there.1))

-- one more than before
pub pushed : (ns new : List Noted) (n : Noted) → new ≡ ns ++ n ∷ [] → (m : Noted) → Contains new m → Contains ns m ⊎ (m ≡ n)
pushed ns new n is m there = elim (Contains-push_cases ns n m (subst (λ (l : List Noted). Contains l m) is there)) [
  | inl was ↦ inl was
  | inr same ↦ inr (sym same)
]

-- its decision more than before
pub pushed-decision : (ns new : List Noted) (n : Noted) → new ≡ ns ++ n ∷ [] → (e : Decision) → Contains (decisions_of new) e ↔ (Contains (decisions_of ns) e ⊎ (e ≡ n.decision))
pushed-decision ns new n is e = (
  (λ there. elim (Contains-push_cases (decisions_of ns) n.decision e (subst (λ (l : List Decision). Contains l e) all there)) [
    | inl was ↦ inl was
    | inr same ↦ inr (sym same)
  ]),
  λ there. subst (λ (l : List Decision). Contains l e) (sym all) (elim there [
    | inl was ↦ Contains-append_left (decisions_of ns) (n.decision ∷ []) e was
    | inr same ↦ subst (Contains (decisions_of ns ++ n.decision ∷ [])) (sym same) (Contains-push (decisions_of ns) n.decision)
  ]),
)
  where
    all : decisions_of new ≡ decisions_of ns ++ n.decision ∷ []
    all = ap decisions_of is ∙ map-append (λ (m : Noted). m.decision) ns (n ∷ [])

-- a decision that was there
pub there-before : (ds : List Decision) (d : Decision) → Contains ds d → (e : Decision) → Contains ds e ↔ (Contains ds e ⊎ (e ≡ d))
there-before ds d has e = (
  (λ there. inl there),
  λ there. elim there [
    | inl was ↦ was
    | inr same ↦ subst (Contains ds) (sym same) has
  ],
)

module _ {Z S : Type 0} where
  -- what a look-up found
  pub found : (table : Table Z S) (p k : List Decision) (now : Vec Noted Z) → k ≡ p → Some now ≡ get lists_eq table k → noted table p ≡ now.items
  found table p k now same is = ap (λ q. noted table q) (sym same) ∙ ap (λ (o : Option (Vec Noted Z)). all_of o) (sym is)

  pub not-found : (table : Table Z S) (p k : List Decision) → k ≡ p → None ≡ get lists_eq table k → noted table p ≡ []
  not-found table p k same is = ap (λ q. noted table q) (sym same) ∙ ap (λ (o : Option (Vec Noted Z)). all_of o) (sym is)

  -- what is written at a key that was found
  pub written : (old new : Table Z S) (p k : List Decision) (was now : Vec Noted Z) → k ≡ p → Some was ≡ get lists_eq old k →
      (IsSome (get lists_eq old k) → Updates lists_eq old new k (Some now)) → (q : List Decision) → get lists_eq new q ≡ cond (lists_eq p q) (Some now) (get lists_eq old q)
  written old new p k was now same is updates q =
      subst (λ (l : List Decision). get lists_eq new q ≡ cond (lists_eq l q) (Some now) (get lists_eq old q)) same ((updates (subst IsSome is refl)).0 q)

  -- what is put at a key
  pub entered : (old mid new : Table Z S) (p k : List Decision) (now : Vec Noted Z) → k ≡ p → mid ≡ old → Updates lists_eq mid new k (Some now) →
      (q : List Decision) → get lists_eq new q ≡ cond (lists_eq p q) (Some now) (get lists_eq old q)
  entered old mid new p k now same as-before updates q =
      subst (λ (l : List Decision). get lists_eq new q ≡ cond (lists_eq l q) (Some now) (get lists_eq old q)) same
      (subst (λ (m : Table Z S). get lists_eq new q ≡ cond (lists_eq k q) (Some now) (get lists_eq m q)) as-before (updates.0 q))

  -- what is noted where something else stands after one list: there, and elsewhere
  at-list : (old new : Table Z S) (p q : List Decision) (now : Vec Noted Z) →
      ((q : List Decision) → get lists_eq new q ≡ cond (lists_eq p q) (Some now) (get lists_eq old q)) → lists_eq p q ≡ true → noted new q ≡ now.items
  at-list old new p q now updates is = ap (λ (o : Option (Vec Noted Z)). all_of o) (updates q ∙ ap (λ b. cond b (Some now) (get lists_eq old q)) is)

  elsewhere : (old new : Table Z S) (p q : List Decision) (now : Vec Noted Z) →
      ((q : List Decision) → get lists_eq new q ≡ cond (lists_eq p q) (Some now) (get lists_eq old q)) → lists_eq p q ≡ false → noted new q ≡ noted old q
  elsewhere old new p q now updates off = ap (λ (o : Option (Vec Noted Z)). all_of o) (updates q ∙ ap (λ b. cond b (Some now) (get lists_eq old q)) off)

  at-old : (old : Table Z S) (p q : List Decision) (before : List Noted) → noted old p ≡ before → lists_eq p q ≡ true → noted old q ≡ before
  at-old old p q before was is = ap (noted old) (sym ((lists-same p q).0 is)) ∙ was

  -- a table in which something else stands after one list
  pub updated : (old new : Table Z S) (p : List Decision) (now : Vec Noted Z) (before : List Noted) (d : Decision) →
      ((q : List Decision) → get lists_eq new q ≡ cond (lists_eq p q) (Some now) (get lists_eq old q)) → noted old p ≡ before →
      ((e : Decision) → Contains (decisions_of now.items) e ↔ (Contains (decisions_of before) e ⊎ (e ≡ d))) → IsNotedBeside old new p d
  updated old new p now before d updates was adds q e = elim (split (lists_eq p q)) [
    | inl is ↦
        let here = at-list old new p q now updates is in
        let there = at-old old p q before was is in (
          (λ has. elim ((adds e).0 (subst (λ (l : List Noted). Contains (decisions_of l) e) here has)) [
            | inl first ↦ inl (subst (λ (l : List Noted). Contains (decisions_of l) e) (sym there) first)
            | inr own ↦ inr (sym ((lists-same p q).0 is), own)
          ]),
          λ has. subst (λ (l : List Noted). Contains (decisions_of l) e) (sym here) ((adds e).1 (elim has [
            | inl first ↦ inl (subst (λ (l : List Noted). Contains (decisions_of l) e) there first)
            | inr own ↦ inr own.1
          ])),
        )
    | inr off ↦
        let here = elsewhere old new p q now updates off in (
          (λ has. inl (subst (λ (l : List Noted). Contains (decisions_of l) e) here has)),
          λ has. elim has [
            | inl first ↦ subst (λ (l : List Noted). Contains (decisions_of l) e) (sym here) first
            | inr own ↦ let clash : lists_eq p q ≡ true = (lists-same p q).1 (sym own.0) in absurd (cc)
          ],
        )
  ]

  pub updated-alone : (old new : Table Z S) (p : List Decision) (now : Vec Noted Z) (before : List Noted) (n : Noted) →
      ((q : List Decision) → get lists_eq new q ≡ cond (lists_eq p q) (Some now) (get lists_eq old q)) → noted old p ≡ before →
      ((m : Noted) → Contains now.items m → Contains before m ⊎ (m ≡ n)) → IsNotedAlone old new p n
  updated-alone old new p now before n updates was more q m has = elim (split (lists_eq p q)) [
    | inl is ↦ elim (more m (subst (λ (l : List Noted). Contains l m) (at-list old new p q now updates is) has)) [
      | inl first ↦ inl (subst (λ (l : List Noted). Contains l m) (sym (at-old old p q before was is)) first)
      | inr own ↦ inr (sym ((lists-same p q).0 is), own)
    ]
    | inr off ↦ inl (subst (λ (l : List Noted). Contains l m) (elsewhere old new p q now updates off) has)
  ]

  -- where each list leads is kept of what was noted before, and of what is noted now
  pub landed-more : (shape : ShapeOf) (were now : List Landing) (old new : Table Z S) (p : List Decision) (n : Noted) → AreLanded shape were old →
      ((k : ℕ) (l : Landing) → slice_get were k ≡ Some l → slice_get now k ≡ Some l) → IsNotedAlone old new p n →
      ((k : ℕ) → n.landing ≡ Some k → IsLandedAt shape now (p ++ n.decision ∷ []) k) → AreLanded shape now new
  landed-more shape were now old new p n before stay alone own q m k there is = elim (alone q m there) [
    | inl was ↦ let (l, at, leads) = before q m k was is in (l, stay k l at, leads)
    | inr same ↦
        subst (λ (r : List Decision). IsLandedAt shape now (r ++ m.decision ∷ []) k) (sym same.0)
        (subst (λ (o : Noted). IsLandedAt shape now (p ++ o.decision ∷ []) k) (sym same.1) (own k (ap (λ (o : Noted). o.landing) (sym same.1) ∙ is)))
  ]

  pub landed-stay : (shape : ShapeOf) (were now : List Landing) (table : Table Z S) → AreLanded shape were table →
      ((k : ℕ) (l : Landing) → slice_get were k ≡ Some l → slice_get now k ≡ Some l) → AreLanded shape now table
  landed-stay shape were now table before stay q m k there is = let (l, at, leads) = before q m k there is in (l, stay k l at, leads)

  -- a list that was noted has its key
  noted-key : (table : Table Z S) (p : List Decision) (d : Decision) (found : Option (Vec Noted Z)) → found ≡ get lists_eq table p → Contains (decisions_of (all_of found)) d → Contains (keys table) p
  noted-key table p d None is there = absurd (omega (arith, there.1))
  noted-key table p d (Some v) is there = Contains-keys_from_lookup (tells_apart prefix_exact) p table.entries (subst IsSome is refl)

  pub member : (b : Bool) (table : Table Z S) (p : List Decision) (d : Decision) → IsNoted table p d ↔ Contains (prefixes_of b table) (p ++ d ∷ [])
  member b table p d = (
    (λ there. Contains-append_right (cond b ([] ∷ []) []) _ _
        (joined (λ q. extended q (decisions_of (noted table q))) (keys table) p (p ++ d ∷ []) (noted-key table p d _ refl there) (mapped (λ e. p ++ e ∷ []) (decisions_of (noted table p)) d there))),
    λ there. elim (Contains-append_cases (cond b ([] ∷ []) []) _ _ there) [
      | inl empty ↦ absurd (not-empty p d (sym (kept b _ empty).1))
      | inr some ↦
          let (q, key, in') = of-joined (λ q. extended q (decisions_of (noted table q))) (keys table) (p ++ d ∷ []) some in
          let (e, has, is) = of-mapped (λ e. q ++ e ∷ []) (decisions_of (noted table q)) (p ++ d ∷ []) in' in
          let same = same-parts p q d e is in
          subst (λ (l : List Decision). IsNoted table l d) (sym same.0) (subst (IsNoted table q) (sym same.1) has)
    ],
  )

  pub member-empty : (b : Bool) (table : Table Z S) → (b ≡ true) ↔ Contains (prefixes_of b table) []
  member-empty b table = (
    (λ is. Contains-append_left (cond b ([] ∷ []) []) (flat_map (λ q. extended q (decisions_of (noted table q))) (keys table)) []
        (subst (λ (c : Bool). Contains {X = List Decision} (cond c ([] ∷ []) []) []) (sym is) (Contains-push [] []))),
    λ there. elim (Contains-append_cases (cond b ([] ∷ []) []) _ _ there) [
      | inl empty ↦ (kept b [] empty).0
      | inr some ↦
          let (q, key, in') = of-joined (λ q. extended q (decisions_of (noted table q))) (keys table) [] some in
          let (e, has, is) = of-mapped (λ e. q ++ e ∷ []) (decisions_of (noted table q)) [] in' in absurd (not-empty q e is)
    ],
  )

  -- two tables of which one has a decision after a list more
  pub grown : (b : Bool) (old new : Table Z S) (p : List Decision) (d : Decision) →
      ((q : List Decision) (e : Decision) → IsNoted new q e ↔ (IsNoted old q e ⊎ ((q ≡ p) × (e ≡ d)))) →
      (q : List Decision) → Contains (prefixes_of b new) q ↔ (Contains (prefixes_of b old) q ⊎ (q ≡ p ++ d ∷ []))
  grown b old new p d more q = elim (ends q) [
    | inl none ↦ subst (λ l. Contains (prefixes_of b new) l ↔ (Contains (prefixes_of b old) l ⊎ (l ≡ p ++ d ∷ []))) (sym none) (
      (λ there. inl ((member-empty b old).0 ((member-empty b new).1 there))),
      λ there. elim there [
        | inl was ↦ (member-empty b new).0 ((member-empty b old).1 was)
        | inr is ↦ absurd (not-empty p d is)
      ],
    )
    | inr last ↦
        let l = last.0 in
        let e = last.1 in
        subst (λ l. Contains (prefixes_of b new) l ↔ (Contains (prefixes_of b old) l ⊎ (l ≡ p ++ d ∷ []))) (sym last.2) (
          (λ there. elim ((more l e).0 ((member b new l e).1 there)) [
            | inl was ↦ inl ((member b old l e).0 was)
            | inr is ↦ inr (λ i. is.0 i ++ is.1 i ∷ [])
          ]),
          λ there. elim there [
            | inl was ↦ (member b new l e).0 ((more l e).1 (inl ((member b old l e).1 was)))
            | inr is ↦ (member b new l e).0 ((more l e).1 (inr (same-parts l p e d is)))
          ],
        )
  ]

  -- the empty list more
  pub with-empty : (b : Bool) (table : Table Z S) (q : List Decision) → Contains (prefixes_of true table) q ↔ (Contains (prefixes_of b table) q ⊎ (q ≡ []))
  with-empty b table q = elim (ends q) [
    | inl none ↦ ((λ there. inr none), λ there. subst (Contains (prefixes_of true table)) (sym none) ((member-empty true table).0 refl))
    | inr last ↦
        let l = last.0 in
        let e = last.1 in
        subst (λ l. Contains (prefixes_of true table) l ↔ (Contains (prefixes_of b table) l ⊎ (l ≡ []))) (sym last.2) (
          (λ there. inl ((member b table l e).0 ((member true table l e).1 there))),
          λ there. elim there [
            | inl was ↦ (member true table l e).0 ((member b table l e).1 was)
            | inr is ↦ absurd (not-empty l e (sym is))
          ],
        )
  ]

-- where the prefix that is added leads
pub own-landing : (shape : ShapeOf) (seen : EarlierOf) (landings : List Landing) (prefix p : List Decision) (d : Decision) (landing : Option Landing) (number : Option ℕ) →
    shape ≡ seen.shape → prefix ≡ p ++ d ∷ [] → IfSome landing (IsLandingOf seen.shape prefix) →
    IfSome number (λ k. (l : Landing) × (landing ≡ Some l) × (slice_get landings k ≡ Some l)) → (k : ℕ) → number ≡ Some k → IsLandedAt shape landings (p ++ d ∷ []) k
own-landing shape seen landings prefix p d landing number same is leads kept k at =
    let (l, own, there) = subst (λ (o : Option ℕ). IfSome o (λ k. (l : Landing) × (landing ≡ Some l) × (slice_get landings k ≡ Some l))) at kept in
    let here : IsLandingOf seen.shape prefix l = subst (λ (o : Option Landing). IfSome o (IsLandingOf seen.shape prefix)) own leads in
    (l, there, subst (λ (s : ShapeOf). IsLandingOf s (p ++ d ∷ []) l) (sym same) (subst (λ (q : List Decision). IsLandingOf seen.shape q l) is here))

-- where a prefix leads, by what was found of it
module _ {Z S : Type 0} where
  pub landed-at : (shape : ShapeOf) (seen : EarlierOf) (b : Bool) (landings : List Landing) (table : Table Z S) (prefix p : List Decision) (d : Decision) (ns : List Noted) (n : Noted)
      (o : Option (Bor Landing)) → record { shape = shape; prefixes = prefixes_of b table } ≡ seen → AreLanded shape landings table → prefix ≡ p ++ d ∷ [] → noted table p ≡ ns →
      Contains ns n → n.decision ≡ d → IfSome o (λ l. (k : ℕ) × (n.landing ≡ Some k) × (slice_get landings k ≡ Some l.now)) →
      IfSome o (λ l. Contains seen.prefixes prefix × IsLandingOf seen.shape prefix l.now)
  landed-at shape seen b landings table prefix p d ns n None view are is here there own at = tt
  landed-at shape seen b landings table prefix p d ns n (Some l) view are is here there own (k, number, kept) =
      let known : Contains (noted table p) n = subst (λ (l : List Noted). Contains l n) (sym here) there in
      let (m, at, leads) = are p n k known number in
      let same : m ≡ l.now = let both : Some m ≡ Some l.now = sym at ∙ kept in cc in
      let whole : p ++ n.decision ∷ [] ≡ prefix = ap (λ (e : Decision). p ++ e ∷ []) own ∙ sym is in (
        subst (λ (e : EarlierOf). Contains e.prefixes prefix) view (subst (Contains (prefixes_of b table)) whole
            ((member b table p n.decision).0 (mapped (λ (x : Noted). x.decision) (noted table p) n known))),
        subst (λ (e : EarlierOf). IsLandingOf e.shape prefix l.now) view
            (subst (IsLandingOf shape prefix) same (subst (λ (q : List Decision). IsLandingOf shape q m) whole leads)),
      )

-- the prefixes after one was noted
pub grown-ok : {Z S E : Type 0} (r : Result (Unit {0}) E) (b : Bool) (old new : Table Z S) (shape : ShapeOf) (seen : EarlierOf) (prefix p : List Decision) (d : Decision) →
    record { shape = shape; prefixes = prefixes_of b old } ≡ seen → prefix ≡ p ++ d ∷ [] → OnOk r (IsNotedBeside old new p d) →
    OnOk r ((q : List Decision) → Contains (prefixes_of b new) q ↔ (Contains seen.prefixes q ⊎ (q ≡ prefix)))
grown-ok (Ok u) b old new shape seen prefix p d view is beside = λ q.
    subst (λ (e : EarlierOf). Contains (prefixes_of b new) q ↔ (Contains e.prefixes q ⊎ (q ≡ prefix))) view
    (subst (λ (l : List Decision). Contains (prefixes_of b new) q ↔ (Contains (prefixes_of b old) q ⊎ (q ≡ l))) (sym is) (grown b old new p d beside q))
grown-ok (Err e) b old new shape seen prefix p d view is beside = tt

-- # Looking for a decision

-- none of the first ones has the decision
pub unfound-more : (ns : List Noted) (i : ℕ) (n : Noted) (d : Decision) (b : Bool) → i < length ns → n ≡ get_or ns i n → (IsTrue b ↔ (n.decision ≡ d)) → b ≡ false →
    (Contains (decisions_of (take i ns)) d → ⊥) → Contains (decisions_of (take (i + 1) ns)) d → ⊥
unfound-more ns i n d b inside here test fails before there =
    elim ((pushed-decision (take i ns) (take (i + 1) ns) n (take_more ns i n inside ∙ ap (λ (m : Noted). take i ns ++ m ∷ []) (sym here)) d).0 there) [
      | inl was ↦ before was
      | inr same ↦ let clash : b ≡ true = test.1 (sym same) in absurd (cc)
    ]

pub unfound-all : (ns : List Noted) (i : ℕ) (d : Decision) → length ns ≤ i → (Contains (decisions_of (take i ns)) d → ⊥) → Contains (decisions_of ns) d → ⊥
unfound-all ns i d past before there = before (subst (λ (l : List Noted). Contains (decisions_of l) d) (sym (take_all i ns past)) there)

-- a test whether something was found
pub found-among : (ns : List Noted) (d : Decision) (o : Option Noted) (b : Bool) → IsFoundAmong ns d o → b ≡ is_some o → IsTrue b ↔ Contains (decisions_of ns) d
found-among ns d None b none is = ((λ holds. absurd (cc)), λ there. absurd (none there))
found-among ns d (Some n) b has is = ((λ holds. subst (Contains (decisions_of ns)) has.1 (mapped (λ (m : Noted). m.decision) ns n has.0)), λ there. is)
