-- States under numbers, kept by the blocks that lead to them.
use Rattle.std.specs.Prelude.{◌≡◌, ℕ, zero, suc, ◌+◌, ◌<◌, List, [], ◌∷◌, ◌++◌, length, take, reverse, Option, Some, None, unwrap_or, slice_get, refl}
use Rattle.std.proofs.Common.{sym, ◌∙◌, ap, subst, arith, get_or, set, append_assoc}
use Rattle.std.proofs.Math.Seq.{take-append_seam}
use Rattle.std.proofs.lemmas.List.{append-nil, reverse-append}
use Rattle.std.proofs.lemmas.Option.{slice_get-get_or, get_or_from_slice_get}
use Rattle.aud_kinds.specs.Objects.{ObjState}
use Rattle.aud_object.specs.Replayed.{replayed}
use Rattle.aud_history.specs.Histories.{History}
use Rattle.aud_history.specs.Table.{row_of}
use Rattle.search_memo.specs.declared.stored_states.StoredStates.{StoredStates}
use Rattle.search_memo.specs.declared.stored_states.StoredStates.TheVariants.{Whole, After}
use Rattle.search_memo.specs.declared.stored_states.BlockStep.{BlockStep}
use Rattle.search_memo.specs.declared.stored_states.Cost.{Cost}
use Rattle.search_memo.specs.StoredStates.{state_from, states_on, states_of, run_way, IsWay, LeadsFrom, IsMoreOf}

-- # The states of a list

length-one : {X : Type 0} (xs : List X) (x : X) → length (xs ++ x ∷ []) ≡ suc (length xs)
length-one [] x = refl
length-one (y ∷ xs) x = ap suc (length-one xs x)

-- one more after the others
on-push : {A : Type 0} (h : History) (all : List (List ObjState)) (ks : List (StoredStates A)) (k : StoredStates A) → states_on h all (ks ++ k ∷ []) ≡ states_on h all ks ++ state_from h (states_on h all ks) k ∷ []
on-push h all [] k = refl
on-push h all (x ∷ ks) k = on-push h (all ++ state_from h all x ∷ []) ks k

pub states-push : {A : Type 0} (h : History) (ks : List (StoredStates A)) (k : StoredStates A) → states_of h (ks ++ k ∷ []) ≡ states_of h ks ++ state_from h (states_of h ks) k ∷ []
states-push h ks k = on-push h [] ks k

length-on : {A : Type 0} (h : History) (all : List (List ObjState)) (ks : List (StoredStates A)) → length (states_on h all ks) ≡ length all + length ks
length-on h all [] = omega arith
length-on h all (x ∷ ks) = let rest = length-on h (all ++ state_from h all x ∷ []) ks in let one = length-one all (state_from h all x) in omega (arith, rest, one)

pub length-states : {A : Type 0} (h : History) (ks : List (StoredStates A)) → length (states_of h ks) ≡ length ks
length-states h ks = let long = length-on h [] ks in omega (arith, long)

-- the first states stay
on-front : {A : Type 0} (h : History) (all : List (List ObjState)) (ks : List (StoredStates A)) → (more : List (List ObjState)) × (states_on h all ks ≡ all ++ more)
on-front h all [] = ([], sym (append-nil all))
on-front h all (x ∷ ks) =
    let (more, is) = on-front h (all ++ state_from h all x ∷ []) ks in (state_from h all x ∷ more, is ∙ append_assoc all (state_from h all x ∷ []) more)

get-seam : {X : Type 0} (xs : List X) (x : X) (ys : List X) → slice_get (xs ++ x ∷ ys) (length xs) ≡ Some x
get-seam [] x ys = refl
get-seam (y ∷ xs) x ys = get-seam xs x ys

on-at : {A : Type 0} (h : History) (all : List (List ObjState)) (ks : List (StoredStates A)) (k : ℕ) (d : StoredStates A) → k < length ks →
    slice_get (states_on h all ks) (length all + k) ≡ Some (state_from h (take (length all + k) (states_on h all ks)) (get_or ks k d))
on-at h all [] k d inside = absurd (omega arith)
on-at h all (x ∷ ks) zero d inside =
    let s = state_from h all x in
    let (more, is) = on-front h (all ++ s ∷ []) ks in
    let whole : states_on h all (x ∷ ks) ≡ all ++ s ∷ more = is ∙ append_assoc all (s ∷ []) more in
    let place : length all + 0 ≡ length all = omega arith in
    let front : take (length all + 0) (states_on h all (x ∷ ks)) ≡ all = (λ i. take (place i) (whole i)) ∙ take-append_seam all (s ∷ more) in
    (λ i. slice_get (whole i) (place i)) ∙ get-seam all s more ∙ ap (λ l. Some (state_from h l x)) (sym front)
on-at h all (x ∷ ks) (suc k) d inside =
    let more : List (List ObjState) = all ++ state_from h all x ∷ [] in
    let one : length more ≡ suc (length all) = length-one all (state_from h all x) in
    let place : length more + k ≡ length all + suc k = omega (arith, one) in
    subst (λ n. slice_get (states_on h more ks) n ≡ Some (state_from h (take n (states_on h more ks)) (get_or ks k d))) place (on-at h more ks k d (omega arith))

states-at : {A : Type 0} (h : History) (ks : List (StoredStates A)) (k : ℕ) (d : StoredStates A) → k < length ks → slice_get (states_of h ks) k ≡ Some (state_from h (take k (states_of h ks)) (get_or ks k d))
states-at h ks k d inside = let same : 0 + k ≡ k = omega arith in subst (λ n. slice_get (states_of h ks) n ≡ Some (state_from h (take n (states_of h ks)) (get_or ks k d))) same (on-at h [] ks k d inside)

get-take : {X : Type 0} (xs : List X) (n k : ℕ) (d : X) → k < n → get_or (take n xs) k d ≡ get_or xs k d
get-take xs zero k d inside = absurd (omega arith)
get-take [] (suc n) k d inside = refl
get-take (x ∷ xs) (suc n) zero d inside = refl
get-take (x ∷ xs) (suc n) (suc k) d inside = get-take xs n k d (omega arith)

-- what is kept after others
after-at : {A : Type 0} (h : History) (ks : List (StoredStates A)) (k : ℕ) (d kept : StoredStates A) (step : BlockStep) (cost : Cost) → k < length ks → kept ≡ get_or ks k d → kept ≡ After step cost → step.from < k →
    slice_get (states_of h ks) k ≡ Some (unwrap_or (replayed (get_or (states_of h ks) step.from []) (row_of h step.tx).block) [])
after-at h ks k d kept step cost inside is behind before =
    states-at h ks k d inside ∙ ap (λ (x : StoredStates _). Some (state_from h (take k (states_of h ks)) x)) (sym is ∙ behind)
    ∙ ap (λ l. Some (unwrap_or (replayed l (row_of h step.tx).block) [])) (get-take (states_of h ks) k step.from [] before)

-- # Ways

-- a way that is known, where its first number is there
abbrev pub IsWayFrom : {A : Type 0} → History → List (StoredStates A) → ℕ → List ℕ → ℕ → Type 0
IsWayFrom h ks first way last = first < length ks → IsWay h (states_of h ks) first (reverse way) last

pub way-start : {A : Type 0} (h : History) (ks : List (StoredStates A)) (n : ℕ) (way : List ℕ) → way ≡ [] → IsWayFrom h ks n way n
way-start h ks n way none inside states is =
    let there : n < length (states_of h ks) = (let long = length-states h ks in omega (arith, long)) in
    let ran : run_way h (get_or (states_of h ks) n []) [] ≡ Some states = ap (λ l. run_way h (get_or (states_of h ks) n []) (reverse l)) (sym none) ∙ is in
    slice_get-get_or (states_of h ks) n [] there ∙ ran

ran-first : (h : History) (way : List ℕ) (o : Option (List ObjState)) (states : List ObjState) → (elim o [ None ↦ None | Some next ↦ run_way h next way ]) ≡ Some states → (next : List ObjState) × ((o ≡ Some next) × (run_way h next way ≡ Some states))
ran-first h way None states is = absurd (cc)
ran-first h way (Some next) states is = (next, (refl, is))

pub way-back : {A : Type 0} (h : History) (ks : List (StoredStates A)) (at last : ℕ) (d kept : StoredStates A) (step : BlockStep) (cost : Cost) (way more : List ℕ) → at < length ks → kept ≡ get_or ks at d → kept ≡ After step cost → step.from < at → more ≡ way ++ step.tx ∷ [] →
    IsWayFrom h ks at way last → IsWayFrom h ks step.from more last
way-back h ks at last d kept step cost way more inside is behind before grown known earlier states ran =
    let turned : reverse more ≡ step.tx ∷ reverse way = ap reverse grown ∙ reverse-append way (step.tx ∷ []) in
    let (next, (first, rest)) = ran-first h (reverse way) (replayed (get_or (states_of h ks) step.from []) (row_of h step.tx).block) states (ap (run_way h (get_or (states_of h ks) step.from [])) (sym turned) ∙ ran) in
    let own : get_or (states_of h ks) at [] ≡ next =
    get_or_from_slice_get (states_of h ks) at next [] (after-at h ks at d kept step cost inside is behind before ∙ ap (λ (o : Option (List ObjState)). Some (unwrap_or o [])) first) in
    known inside states (ap (λ l. run_way h l (reverse way)) own ∙ rest)

-- where the blocks lead from whole states that a way begins with
pub transitions-way : {A : Type 0} (h : History) (ks : List (StoredStates A)) (first last : ℕ) (d kept : StoredStates A) (way : List ℕ) (states : List ObjState) → first < length ks → kept ≡ get_or ks first d → LeadsFrom h kept way states → IsWay h (states_of h ks) first way last →
    slice_get (states_of h ks) last ≡ Some states
transitions-way h ks first last d (Whole s) way states inside is transitions known =
    let own : get_or (states_of h ks) first [] ≡ s.now =
    get_or_from_slice_get (states_of h ks) first s.now [] (states-at h ks first d inside ∙ ap (λ (x : StoredStates _). Some (state_from h (take first (states_of h ks)) x)) (sym is)) in
    known states (ap (λ l. run_way h l way) own ∙ transitions)
transitions-way h ks first last d (After step cost) way states inside is transitions known = absurd transitions

-- an element is put where it was
pub put-itself : {X : Type 0} (xs : List X) (i : ℕ) (x y : X) → x ≡ get_or xs i x → y ≡ x → set xs i y ≡ xs
put-itself [] i x y is same = refl
put-itself (e ∷ xs) zero x y is same = λ j. (same ∙ is) j ∷ xs
put-itself (e ∷ xs) (suc i) x y is same = ap (λ l. e ∷ l) (put-itself xs i x y is same)

-- # What is kept stays

pub more-same : {X : Type 0} (old new : List X) → new ≡ old → IsMoreOf old new
more-same old new same = ([], same ∙ sym (append-nil old))

pub kept-more : {A : Type 0} (h : History) (old new : List (StoredStates A)) (fresh : StoredStates A) → new ≡ old ++ fresh ∷ [] → IsMoreOf (states_of h old) (states_of h new)
kept-more h old new fresh is = (state_from h (states_of h old) fresh ∷ [], ap (states_of h) is ∙ states-push h old fresh)

pub kept-there : {A : Type 0} (h : History) (old new : List (StoredStates A)) (fresh : StoredStates A) (n : ℕ) (states : List ObjState) → new ≡ old ++ fresh ∷ [] → n ≡ length old → state_from h (states_of h old) fresh ≡ states → slice_get (states_of h new) n ≡ Some states
kept-there h old new fresh n states is place own =
    let all = states_of h old in
    let whole : states_of h new ≡ all ++ state_from h all fresh ∷ [] = ap (states_of h) is ∙ states-push h old fresh in
    let last : n ≡ length all = place ∙ sym (length-states h old) in
    (λ i. slice_get (whole i) (last i)) ∙ get-seam all (state_from h all fresh) [] ∙ ap (λ l. Some l) own
