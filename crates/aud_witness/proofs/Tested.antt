-- The tests compute the definitions.
use Rattle.std.proofs.Common.{◌≡◌, ℕ, ◌+◌, Bool, true, false, cond, not, ◌&&◌, ◌||◌, nat_eq, inl, inr, List, [], ◌∷◌, Some, slice_get, refl, sym, ◌∙◌, ap, subst, suc, zero, arith}
use Rattle.std.specs.List.{list_any, list_all}
use Rattle.aud_event.specs.declared.object.Answer.{Answer}
use Rattle.aud_event.specs.declared.object.Answer.TheVariants.{Done, Int, Flag, Empty}
use Rattle.aud_event.specs.declared.fact.Event.{Event}
use Rattle.aud_event.specs.declared.fact.Event.TheVariants.{Inv, Ret}
use Rattle.aud_event.specs.Meanings.{Declared}
use Rattle.aud_witness.specs.declared.decision.Decision.{Decision}
use Rattle.aud_history.specs.Histories.{History, events_of, is_in, is_before, is_completed, is_committed, is_aborted, is_commit, is_abort, from_first}
use Rattle.aud_kinds.specs.Objects.{on_object, ObjState, opening_of, answer_of, after_op, IsInSeq, IsLegal}
use Rattle.aud_witness.specs.Orders.{is_allowed, is_named, are_named_once, stands_before, visible, IsFull, Shows}
use Rattle.aud_witness.specs.Enumeration.{is_same_bool, is_same_answer, is_in_seq, is_legal_from, is_full, keeps_real_time, shows}
use Rattle.base_values.proofs.Bools.{same_bools, or_true, and_true, true_and, true_or, or_right, nat_eq-refl, nat_eq-is}
use Rattle.base_undo.proofs.Ints.{eq-is, eq-itself}

is_same_bool-is : (a b : Bool) → is_same_bool a b ≡ true → a ≡ b
is_same_bool-is true b h = sym h
is_same_bool-is false true h = absurd (cc)
is_same_bool-is false false h = refl

is_same_bool-refl : (a : Bool) → is_same_bool a a ≡ true
is_same_bool-refl true = refl
is_same_bool-refl false = refl

is_same_answer-is : (a b : Answer) → is_same_answer a b ≡ true → a ≡ b
is_same_answer-is Done Done h = refl
is_same_answer-is Done (Int _) h = absurd (cc)
is_same_answer-is Done (Flag _) h = absurd (cc)
is_same_answer-is Done Empty h = absurd (cc)
is_same_answer-is (Int v) Done h = absurd (cc)
is_same_answer-is (Int v) (Int w) h = ap Int (eq-is v w h)
is_same_answer-is (Int v) (Flag _) h = absurd (cc)
is_same_answer-is (Int v) Empty h = absurd (cc)
is_same_answer-is (Flag a) Done h = absurd (cc)
is_same_answer-is (Flag a) (Int _) h = absurd (cc)
is_same_answer-is (Flag a) (Flag b) h = ap Flag (is_same_bool-is a b h)
is_same_answer-is (Flag a) Empty h = absurd (cc)
is_same_answer-is Empty Done h = absurd (cc)
is_same_answer-is Empty (Int _) h = absurd (cc)
is_same_answer-is Empty (Flag _) h = absurd (cc)
is_same_answer-is Empty Empty h = refl

is_same_answer-refl : (a : Answer) → is_same_answer a a ≡ true
is_same_answer-refl Done = refl
is_same_answer-refl (Int v) = eq-itself v
is_same_answer-refl (Flag a) = is_same_bool-refl a
is_same_answer-refl Empty = refl

pub IsInSeq-from_test : (s : ObjState) (es : List Event) → is_in_seq s es ≡ true → IsInSeq s es
IsInSeq-from_test s [] h = tt
IsInSeq-from_test s (Inv _ op ∷ []) h = tt
IsInSeq-from_test s (Inv _ op ∷ Ret _ _ answer ∷ es) h =
    let both : (is_same_answer answer (answer_of s op) ≡ true) × (is_in_seq (after_op s op) es ≡ true) = and_true (is_same_answer answer (answer_of s op)) (is_in_seq (after_op s op) es) h in
    (is_same_answer-is answer (answer_of s op) both.0, IsInSeq-from_test (after_op s op) es both.1)
IsInSeq-from_test s _ h = absurd (cc)

pub is_in_seq-from_IsInSeq : (s : ObjState) (es : List Event) → IsInSeq s es → is_in_seq s es ≡ true
is_in_seq-from_IsInSeq s [] h = refl
is_in_seq-from_IsInSeq s (Inv _ op ∷ []) h = refl
is_in_seq-from_IsInSeq s (Inv _ op ∷ Ret _ _ answer ∷ es) h =
    true_and (is_same_answer answer (answer_of s op)) (is_in_seq (after_op s op) es)
    (subst (λ a. is_same_answer answer a ≡ true) h.0 (is_same_answer-refl answer))
    (is_in_seq-from_IsInSeq (after_op s op) es h.1)
is_in_seq-from_IsInSeq s _ h = absurd h

legal_from : (n : ℕ) (objects : List Declared) (es : List Event) → is_legal_from n objects es ≡ true →
    (ob : ℕ) (d : Declared) → slice_get objects ob ≡ Some d → IsInSeq (opening_of d) (on_object (n + ob) es)
legal_from n [] es h ob d at = absurd (cc)
legal_from n (x ∷ objects) es h zero d at =
    let both : (is_in_seq (opening_of x) (on_object n es) ≡ true) × (is_legal_from (n + 1) objects es ≡ true) = and_true (is_in_seq (opening_of x) (on_object n es)) (is_legal_from (n + 1) objects es) h in
    let same : x ≡ d = cc in
    let place : n ≡ n + 0 = omega arith in
    subst (λ y. IsInSeq (opening_of y) (on_object (n + 0) es)) same
    (subst (λ m. IsInSeq (opening_of x) (on_object m es)) place (IsInSeq-from_test (opening_of x) (on_object n es) both.0))
legal_from n (x ∷ objects) es h (suc k) d at =
    let both : (is_in_seq (opening_of x) (on_object n es) ≡ true) × (is_legal_from (n + 1) objects es ≡ true) = and_true (is_in_seq (opening_of x) (on_object n es)) (is_legal_from (n + 1) objects es) h in
    let place : (n + 1) + k ≡ n + suc k = omega arith in
    subst (λ m. IsInSeq (opening_of d) (on_object m es)) place (legal_from (n + 1) objects es both.1 k d at)

test_from_legal : (n : ℕ) (objects : List Declared) (es : List Event) →
    ((ob : ℕ) (d : Declared) → slice_get objects ob ≡ Some d → IsInSeq (opening_of d) (on_object (n + ob) es)) → is_legal_from n objects es ≡ true
test_from_legal n [] es legal = refl
test_from_legal n (x ∷ objects) es legal =
    let place : n + 0 ≡ n = omega arith in
    let first : IsInSeq (opening_of x) (on_object n es) = subst (λ m. IsInSeq (opening_of x) (on_object m es)) place (legal 0 x refl) in
    true_and (is_in_seq (opening_of x) (on_object n es)) (is_legal_from (n + 1) objects es)
    (is_in_seq-from_IsInSeq (opening_of x) (on_object n es) first)
    (test_from_legal (n + 1) objects es (λ ob d at.
    let moved : n + suc ob ≡ (n + 1) + ob = omega arith in
    subst (λ m. IsInSeq (opening_of d) (on_object m es)) moved (legal (suc ob) d at)))

pub IsLegal-from_test : (objects : List Declared) (es : List Event) → is_legal_from 0 objects es ≡ true → IsLegal objects es
IsLegal-from_test objects es h ob d at =
    let place : 0 + ob ≡ ob = omega arith in
    subst (λ m. IsInSeq (opening_of d) (on_object m es)) place (legal_from 0 objects es h ob d at)

pub test-from_IsLegal : (objects : List Declared) (es : List Event) → IsLegal objects es → is_legal_from 0 objects es ≡ true
test-from_IsLegal objects es legal =
    test_from_legal 0 objects es (λ ob d at.
    let place : ob ≡ 0 + ob = omega arith in
    subst (λ m. IsInSeq (opening_of d) (on_object m es)) place (legal ob d at))

-- what every event's transaction passes, each transaction of H passes
pub each_in : (test : ℕ → Bool) (h : History) → list_all (λ e. test e.0) h ≡ true → (t : ℕ) → is_in h t ≡ true → test t ≡ true
each_in test [] all t there = absurd (cc)
each_in test (e ∷ h) all t there =
    let both : (test e.0 ≡ true) × (list_all (λ x. test x.0) h ≡ true) = and_true (test e.0) (list_all (λ x. test x.0) h) all in
    elim (or_true (nat_eq e.0 t) (is_in h t) there) [
      | inl here ↦ subst (λ n. test n ≡ true) (nat_eq-is e.0 t here) both.0
      | inr later ↦ each_in test h both.1 t later
    ]

pub each_named : (test : ℕ → Bool) (p : List Decision) → list_all (λ d. test d.tx) p ≡ true → (t : ℕ) → is_named p t ≡ true → test t ≡ true
each_named test [] all t there = absurd (cc)
each_named test (d ∷ p) all t there =
    let both : (test d.tx ≡ true) × (list_all (λ x. test x.tx) p ≡ true) = and_true (test d.tx) (list_all (λ x. test x.tx) p) all in
    elim (or_true (nat_eq d.tx t) (is_named p t) there) [
      | inl here ↦ subst (λ n. test n ≡ true) (nat_eq-is d.tx t here) both.0
      | inr later ↦ each_named test p both.1 t later
    ]

-- an event of T that passes a test is an event of T
in_by_event : (test : Event → Bool) (t : ℕ) (h : History) → list_any test (events_of t h) ≡ true → is_in h t ≡ true
in_by_event test t [] one = absurd (cc)
in_by_event test t (e ∷ h) one =
    elim (nat_eq e.0 t) as (λ b. list_any test (cond b (e.1 ∷ events_of t h) (events_of t h)) ≡ true → (b || is_in h t) ≡ true) [
      | true ↦ λ _. refl
      | false ↦ λ o. in_by_event test t h o
    ] one

pub before_in : (h : History) (t u : ℕ) → is_before h t u ≡ true → (is_in h t ≡ true) × (is_in h u ≡ true)
before_in h t u b =
    let two : (is_completed h t ≡ true) × (is_in h u ≡ true) =
    and_true (is_completed h t) (is_in h u) ((and_true (is_completed h t && is_in h u) (not (is_in (from_first u h) t)) b).0) in (
      elim (or_true (is_committed h t) (is_aborted h t) two.0) [
        | inl k ↦ in_by_event is_commit t h k
        | inr k ↦ in_by_event is_abort t h k
      ],
      two.1,
    )

-- implication, as a test
pub implied : (a b : Bool) → (not a || b) ≡ true → a ≡ true → b ≡ true
implied true b h k = h
implied false b h k = absurd (cc)

pub implies : (a b : Bool) → (a ≡ true → b ≡ true) → (not a || b) ≡ true
implies true b f = f refl
implies false b f = refl

pub all_of : {X : Type 0} (test : X → Bool) (xs : List X) → ((x : X) → test x ≡ true) → list_all test xs ≡ true
all_of test [] each = refl
all_of test (x ∷ xs) each = true_and (test x) (list_all test xs) (each x) (all_of test xs each)

real_time-from_test : (h : History) (p : List Decision) → keeps_real_time h p ≡ true → (t u : ℕ) → is_before h t u ≡ true → stands_before p t u ≡ true
real_time-from_test h p k t u b =
    let there : (is_in h t ≡ true) × (is_in h u ≡ true) = before_in h t u b in
    let row : list_all (λ f. not (is_before h t f.0) || stands_before p t f.0) h ≡ true =
    each_in (λ n. list_all (λ f. not (is_before h n f.0) || stands_before p n f.0) h) h k t there.0 in
    implied (is_before h t u) (stands_before p t u) (each_in (λ n. not (is_before h t n) || stands_before p t n) h row u there.1) b

each_of_named : (test : ℕ → Bool) (p : List Decision) → ((t : ℕ) → is_named p t ≡ true → test t ≡ true) → list_all (λ d. test d.tx) p ≡ true
each_of_named test [] each = refl
each_of_named test (d ∷ p) each =
    true_and (test d.tx) (list_all (λ x. test x.tx) p)
    (each d.tx (true_or (nat_eq d.tx d.tx) (is_named p d.tx) (nat_eq-refl d.tx)))
    (each_of_named test p (λ t n. each t (or_right (nat_eq d.tx t) (is_named p t) n)))

each_of_in : (test : ℕ → Bool) (h : History) → ((t : ℕ) → is_in h t ≡ true → test t ≡ true) → list_all (λ e. test e.0) h ≡ true
each_of_in test [] each = refl
each_of_in test (e ∷ h) each =
    true_and (test e.0) (list_all (λ x. test x.0) h)
    (each e.0 (true_or (nat_eq e.0 e.0) (is_in h e.0) (nat_eq-refl e.0)))
    (each_of_in test h (λ t n. each t (or_right (nat_eq e.0 t) (is_in h t) n)))

is_full-gives : (h : History) (p : List Decision) → is_full h p ≡ true → IsFull h p
is_full-gives h p k =
    let once : Bool = are_named_once p in
    let fits : Bool = list_all (λ d. is_allowed h d.tx d.fate) p in
    let inside : Bool = list_all (λ d. is_in h d.tx) p in
    let all : Bool = list_all (λ e. is_named p e.0) h in
    let three : ((once && fits) && inside) ≡ true = (and_true ((once && fits) && inside) all k).0 in
    let two : (once && fits) ≡ true = (and_true (once && fits) inside three).0 in
    record {
      once = (and_true once fits two).0;
      same = λ t. same_bools (is_named p t) (is_in h t)
          (λ n. each_named (is_in h) p ((and_true (once && fits) inside three).1) t n)
          (λ n. each_in (is_named p) h ((and_true ((once && fits) && inside) all k).1) t n);
      allowed = (and_true once fits two).1;
    }

pub Shows-from_test : (objects : List Declared) (h : History) (p : List Decision) → shows objects h p ≡ true → Shows objects h p
Shows-from_test objects h p k =
    let first : (is_full h p && keeps_real_time h p) ≡ true = (and_true (is_full h p && keeps_real_time h p) (list_all (λ d. is_legal_from 0 objects (visible h p d.tx)) p) k).0 in
    let legal : list_all (λ d. is_legal_from 0 objects (visible h p d.tx)) p ≡ true = (and_true (is_full h p && keeps_real_time h p) (list_all (λ d. is_legal_from 0 objects (visible h p d.tx)) p) k).1 in
    record {
      full = is_full-gives h p ((and_true (is_full h p) (keeps_real_time h p) first).0);
      real_time = real_time-from_test h p ((and_true (is_full h p) (keeps_real_time h p) first).1);
      legal = λ t named. IsLegal-from_test objects (visible h p t) (each_named (λ n. is_legal_from 0 objects (visible h p n)) p legal t named);
    }

pub test-from_Shows : (objects : List Declared) (h : History) (p : List Decision) → Shows objects h p → shows objects h p ≡ true
test-from_Shows objects h p s =
    let once : Bool = are_named_once p in
    let fits : Bool = list_all (λ d. is_allowed h d.tx d.fate) p in
    let inside : Bool = list_all (λ d. is_in h d.tx) p in
    let all : Bool = list_all (λ e. is_named p e.0) h in
    let full : is_full h p ≡ true =
    true_and ((once && fits) && inside) all
    (true_and (once && fits) inside
    (true_and once fits s.full.once s.full.allowed)
    (each_of_named (is_in h) p (λ t n. sym (s.full.same t) ∙ n)))
    (each_of_in (is_named p) h (λ t n. s.full.same t ∙ n)) in
    let timed : keeps_real_time h p ≡ true =
    all_of (λ e. list_all (λ f. not (is_before h e.0 f.0) || stands_before p e.0 f.0) h) h
    (λ e. all_of (λ f. not (is_before h e.0 f.0) || stands_before p e.0 f.0) h
    (λ f. implies (is_before h e.0 f.0) (stands_before p e.0 f.0) (s.real_time e.0 f.0))) in
    true_and (is_full h p && keeps_real_time h p) (list_all (λ d. is_legal_from 0 objects (visible h p d.tx)) p)
    (true_and (is_full h p) (keeps_real_time h p) full timed)
    (each_of_named (λ n. is_legal_from 0 objects (visible h p n)) p (λ t n. test-from_IsLegal objects (visible h p t) (s.legal t n)))
