-- Names and numbers of objects.
use Rattle.std.specs.Prelude.{◌≡◌, ℕ, suc, zero, Bool, true, false, not, ◌&&◌, if◌then◌else◌, List, [], ◌∷◌, ◌++◌, length, Option, Some, None, option_map, slice_get, is_some, bytes_eq, string_bytes, refl}
use Rattle.std.specs.List.{list_any, AllZip}
use Rattle.std.specs.Map.{update, lookup}
use Rattle.std.specs.BTreeMap.{is_at}
use Rattle.std.specs.Ordering.{nat_cmp, is_eq}
use Rattle.std.specs.Cmp.Lexicographic.{slice_cmp}
use Rattle.std.specs.declared.string.String.{String}
use Rattle.std.proofs.Common.{sym, ◌∙◌, ap, subst, cond}
use Rattle.std.proofs.lemmas.Slice.Eq.{bytes_eq-Decides}
use Rattle.aud_event.specs.Meanings.{Declared}
use Rattle.base_values.proofs.Bools.{and_true, or_false, or_right, not_true, same_bools, and_no}
use Rattle.aud_event.specs.Plans.{has_name, names_differ, number_of}

-- a number that was found, or the given one if the test holds
abbrev pub found_or : Option ℕ → ℕ → Bool → Option ℕ
found_or (Some n) m b = Some n
found_or None m b = if b then Some m else None

found_or-suc : (o : Option ℕ) (m : ℕ) (b : Bool) → option_map suc (found_or o m b) ≡ found_or (option_map suc o) (suc m) b
found_or-suc (Some n) m b = refl
found_or-suc None m true = refl
found_or-suc None m false = refl

pub number_of-push : (name : List ℕ) (xs : List Declared) (d : Declared) → number_of name (xs ++ d ∷ []) ≡ found_or (number_of name xs) (length xs) (has_name name d)
number_of-push name [] d = refl
number_of-push name (x ∷ xs) d =
    elim (has_name name x) as (λ b. (if b then Some 0 else option_map suc (number_of name (xs ++ d ∷ []))) ≡ found_or (if b then Some 0 else option_map suc (number_of name xs)) (suc (length xs)) (has_name name d)) [
      | true ↦ refl
      | false ↦ ap (option_map suc) (number_of-push name xs d) ∙ found_or-suc (number_of name xs) (length xs) (has_name name d)
    ]

pub bytes_eq-refl : (x : List ℕ) → bytes_eq x x ≡ true
bytes_eq-refl x = (bytes_eq-Decides x x).1 refl

pub same_from_bytes_eq : (x y : List ℕ) → bytes_eq x y ≡ true → x ≡ y
same_from_bytes_eq x y e = (bytes_eq-Decides x y).0 e

pub bytes_eq-comm : (x y : List ℕ) → bytes_eq x y ≡ bytes_eq y x
bytes_eq-comm x y =
    same_bools (bytes_eq x y) (bytes_eq y x) (λ e. subst (λ z. bytes_eq z x ≡ true) (same_from_bytes_eq x y e) (bytes_eq-refl x)) (λ e. subst (λ z. bytes_eq z y ≡ true) (same_from_bytes_eq y x e) (bytes_eq-refl y))

none_below : (o : Option ℕ) → option_map suc o ≡ None → o ≡ None
none_below (Some n) e = cc
none_below None e = refl

-- a name that is not found is not the first one's, and is not found in the rest
not_found : (b : Bool) (o : Option ℕ) → (if b then Some 0 else option_map suc o) ≡ None → (b ≡ false) × (o ≡ None)
not_found true o e = cc
not_found false o e = (refl, none_below o e)

any-push : (p : Declared → Bool) (xs : List Declared) (d : Declared) → list_any p xs ≡ false → p d ≡ false → list_any p (xs ++ d ∷ []) ≡ false
any-push p [] d none here = rw here refl
any-push p (x ∷ xs) d none here =
    let parts = or_false (p x) (list_any p xs) none in rw (parts.0, any-push p xs d parts.1 here) refl

pub names_differ-push : (xs : List Declared) (d : Declared) → names_differ xs ≡ true → number_of d.name xs ≡ None → names_differ (xs ++ d ∷ []) ≡ true
names_differ-push [] d differ none = refl
names_differ-push (x ∷ xs) d differ none =
    let parts = and_true (not (list_any (has_name x.name) xs)) (names_differ xs) differ in
    let here = not_found (has_name d.name x) (number_of d.name xs) none in
    let fresh = any-push (has_name x.name) xs d (not_true (list_any (has_name x.name) xs) parts.0) (bytes_eq-comm d.name x.name ∙ here.0) in
    rw (fresh, names_differ-push xs d parts.1 here.1) refl

any-middle : (p : Declared → Bool) (xs : List Declared) (d : Declared) (ys : List Declared) → p d ≡ true → list_any p (xs ++ d ∷ ys) ≡ true
any-middle p [] d ys here = rw here refl
any-middle p (x ∷ xs) d ys here = or_right (p x) (list_any p (xs ++ d ∷ ys)) (any-middle p xs d ys here)

pub names_differ-twice : (xs : List Declared) (d : Declared) (ys : List Declared) (i : ℕ) → number_of d.name xs ≡ Some i → names_differ (xs ++ d ∷ ys) ≡ false
names_differ-twice [] d ys i found = cc
names_differ-twice (x ∷ xs) d ys i found =
    at_first (has_name d.name x) (number_of d.name xs) refl refl (λ j is. names_differ-twice xs d ys j is) found
  where
    at_first : (b : Bool) (o : Option ℕ) → has_name d.name x ≡ b → number_of d.name xs ≡ o →
        ((j : ℕ) → number_of d.name xs ≡ Some j → names_differ (xs ++ d ∷ ys) ≡ false) → (if b then Some 0 else option_map suc o) ≡ Some i →
        (not (list_any (has_name x.name) (xs ++ d ∷ ys)) && names_differ (xs ++ d ∷ ys)) ≡ false
    at_first true o same is later found = rw (any-middle (has_name x.name) xs d ys (bytes_eq-comm d.name x.name ∙ same)) refl
    at_first false (Some j) other is later found =
        rw (later j is) (and_no (not (list_any (has_name x.name) (xs ++ d ∷ ys))))
    at_first false None other is later found = cc

absent_at : (p : Declared → Bool) (xs : List Declared) (i : ℕ) (d : Declared) → list_any p xs ≡ false → slice_get xs i ≡ Some d → p d ≡ false
absent_at p [] i d none there = cc
absent_at p (x ∷ xs) zero d none there =
    let same : x ≡ d = cc in subst (λ y. p y ≡ false) same (or_false (p x) (list_any p xs) none).0
absent_at p (x ∷ xs) (suc i) d none there = absent_at p xs i d (or_false (p x) (list_any p xs) none).1 there

pub number_of-own : (objects : List Declared) (i : ℕ) (d : Declared) → names_differ objects ≡ true → slice_get objects i ≡ Some d → number_of d.name objects ≡ Some i
number_of-own [] i d differ there = cc
number_of-own (x ∷ xs) zero d differ there =
    let same : x ≡ d = cc in
    subst (λ y. number_of y.name (x ∷ xs) ≡ Some 0) same (rw (bytes_eq-refl x.name) refl)
number_of-own (x ∷ xs) (suc i) d differ there =
    let parts = and_true (not (list_any (has_name x.name) xs)) (names_differ xs) differ in
    let fresh = absent_at (has_name x.name) xs i d (not_true (list_any (has_name x.name) xs) parts.0) there in
    rw (bytes_eq-comm x.name d.name, fresh, number_of-own xs i d parts.1 there) refl

pub numbered_there : (objects : List Declared) (name : List ℕ) (i : ℕ) → number_of name objects ≡ Some i → (d : Declared) × ((slice_get objects i ≡ Some d) × (d.name ≡ name))
numbered_there [] name i found = cc
numbered_there (x ∷ xs) name i found =
    at_first (has_name name x) (number_of name xs) i refl refl (λ j is. numbered_there xs name j is) found
  where
    at_first : (b : Bool) (o : Option ℕ) (i : ℕ) → has_name name x ≡ b → number_of name xs ≡ o →
        ((j : ℕ) → number_of name xs ≡ Some j → (d : Declared) × ((slice_get xs j ≡ Some d) × (d.name ≡ name))) →
        (if b then Some 0 else option_map suc o) ≡ Some i → (d : Declared) × ((slice_get (x ∷ xs) i ≡ Some d) × (d.name ≡ name))
    at_first true o zero same is later found = (x, (refl, same_from_bytes_eq x.name name same))
    at_first true o (suc i) same is later found = cc
    at_first false (Some j) zero other is later found = cc
    at_first false (Some j) (suc i) other is later found =
        let same : j ≡ i = cc in later i (is ∙ ap Some same)
    at_first false None i other is later found = cc

-- what one more object adds to what the names lead to
number_of-step : (name : List ℕ) (xs : List Declared) (d : Declared) (i : ℕ) → length xs ≡ i → number_of d.name xs ≡ None →
    number_of name (xs ++ d ∷ []) ≡ cond (bytes_eq d.name name) (Some i) (number_of name xs)
number_of-step name xs d i count fresh = number_of-push name xs d ∙ by_name (bytes_eq d.name name) refl
  where
    none_found : (o : Option ℕ) (m : ℕ) → found_or o m false ≡ o
    none_found (Some n) m = refl
    none_found None m = refl

    by_name : (b : Bool) → bytes_eq d.name name ≡ b → found_or (number_of name xs) (length xs) b ≡ cond b (Some i) (number_of name xs)
    by_name true same =
        let there : number_of name xs ≡ None = subst (λ n. number_of n xs ≡ None) (same_from_bytes_eq d.name name same) fresh in
        rw there (ap Some count)
    by_name false other = none_found (number_of name xs) (length xs)

-- the index of names with one more name
pub index-step : (old new : List ℕ → Option ℕ) (bs : List ℕ) (xs : List Declared) (d : Declared) (i : ℕ) → bs ≡ d.name → length xs ≡ i →
    ((q : List ℕ) → old q ≡ number_of q xs) → old bs ≡ None → ((q : List ℕ) → new q ≡ update bytes_eq old bs (Some i) q) →
    (q : List ℕ) → new q ≡ number_of q (xs ++ d ∷ [])
index-step old new bs xs d i named count index fresh step q =
    let absent : number_of d.name xs ≡ None = subst (λ n. number_of n xs ≡ None) named (sym (index bs) ∙ fresh) in
    step q ∙ ap (λ n. cond (bytes_eq n q) (Some i) (old q)) named ∙ ap (λ o. cond (bytes_eq d.name q) (Some i) o) (index q) ∙ sym (number_of-step q xs d i count absent)

pub some_from : (o : Option ℕ) → is_some o ≡ true → (n : ℕ) × (o ≡ Some n)
some_from (Some n) e = (n, refl)
some_from None e = cc

pub none_from : (o : Option ℕ) → is_some o ≡ false → o ≡ None
none_from (Some n) e = cc
none_from None e = refl

-- a copy of an index answers as the index does
pub lookup-clone : {Y : Type 0} (bs : List ℕ) → (es fs : List (String Y × ℕ)) →
    AllZip (λ p q. (string_bytes q.0 ≡ string_bytes p.0) × (q.1 ≡ p.1)) es fs →
    lookup (λ k. is_at (λ k. slice_cmp nat_cmp bs (string_bytes k)) k) fs ≡ lookup (λ k. is_at (λ k. slice_cmp nat_cmp bs (string_bytes k)) k) es
lookup-clone bs [] [] same = refl
lookup-clone bs [] (f ∷ fs) same = absurd same
lookup-clone bs (e ∷ es) [] same = absurd same
lookup-clone bs (e ∷ es) (f ∷ fs) same =
    ap (λ t. cond (is_eq (slice_cmp nat_cmp bs t)) (Some f.1) (lookup (λ k. is_at (λ k. slice_cmp nat_cmp bs (string_bytes k)) k) fs)) same.0.0
    ∙ ap (λ n. cond (is_eq (slice_cmp nat_cmp bs (string_bytes e.0))) (Some n) (lookup (λ k. is_at (λ k. slice_cmp nat_cmp bs (string_bytes k)) k) fs)) same.0.1
    ∙ ap (λ o. cond (is_eq (slice_cmp nat_cmp bs (string_bytes e.0))) (Some e.1) o) (lookup-clone bs es fs same.1)
