-- Tests that compute the definitions on small histories.
use Rattle.std.specs.Prelude.{ℕ, Bool, true, false, not, ◌&&◌, ◌||◌, ◌+◌, if◌then◌else◌, List, [], ◌∷◌, ◌++◌, map, filter}
use Rattle.std.specs.List.{list_all, flat_map}
use Rattle.std.specs.Ordering.{int_eq}
use Rattle.aud_event.specs.declared.object.Answer.{Answer}
use Rattle.aud_event.specs.declared.object.Answer.TheVariants.{Done, Int, Flag, Empty}
use Rattle.aud_event.specs.declared.fact.Event.{Event}
use Rattle.aud_event.specs.declared.fact.Event.TheVariants.{Inv, Ret}
use Rattle.aud_event.specs.Meanings.{Declared}
use Rattle.aud_witness.specs.declared.decision.Fate.TheVariants.{C, A}
use Rattle.aud_witness.specs.declared.decision.Decision.{Decision}
use Rattle.aud_history.specs.Histories.{History, is_in, is_before}
use Rattle.aud_kinds.specs.Objects.{on_object, ObjState, opening_of, answer_of, after_op}
use Rattle.aud_history.specs.Table.{transactions}
use Rattle.aud_witness.specs.Orders.{is_allowed, is_named, are_named_once, stands_before, visible}

-- two tests agree
abbrev pub is_same_bool : Bool → Bool → Bool
is_same_bool true b = b
is_same_bool false b = not b

-- two answers are one
abbrev pub is_same_answer : Answer → Answer → Bool
is_same_answer Done Done = true
is_same_answer (Int v) (Int w) = int_eq v w
is_same_answer (Flag a) (Flag b) = is_same_bool a b
is_same_answer Empty Empty = true
is_same_answer _ _ = false

-- Seq(ob), as a test
abbrev pub is_in_seq : ObjState → List Event → Bool
is_in_seq state [] = true
is_in_seq state (Inv _ op ∷ []) = true
is_in_seq state (Inv _ op ∷ Ret _ _ answer ∷ es) = is_same_answer answer (answer_of state op) && is_in_seq (after_op state op) es
is_in_seq state _ = false

-- the objects from a number on
abbrev pub is_legal_from : ℕ → List Declared → List Event → Bool
is_legal_from n [] es = true
is_legal_from n (d ∷ ds) es = is_in_seq (opening_of d) (on_object n es) && is_legal_from (n + 1) ds es

-- p is full, as a test
abbrev pub is_full : History → List Decision → Bool
is_full h p =
    are_named_once p
    && list_all (λ d. is_allowed h d.tx d.fate) p
    && list_all (λ d. is_in h d.tx) p
    && list_all (λ e. is_named p e.0) h

-- what is before another in H stands before it in p
abbrev pub keeps_real_time : History → List Decision → Bool
keeps_real_time h p =
    list_all (λ e. list_all (λ f. not (is_before h e.0 f.0) || stands_before p e.0 f.0) h) h

-- p shows H, as a test
abbrev pub shows : List Declared → History → List Decision → Bool
shows objects h p =
    is_full h p && keeps_real_time h p && list_all (λ d. is_legal_from 0 objects (visible h p d.tx)) p

-- x at each place of a list
abbrev pub at_each_place : ℕ → List ℕ → List (List ℕ)
at_each_place x [] = (x ∷ []) ∷ []
at_each_place x (y ∷ ys) = (x ∷ y ∷ ys) ∷ map (λ zs. y ∷ zs) (at_each_place x ys)

-- all orders of a list
abbrev pub permutations : List ℕ → List (List ℕ)
permutations [] = [] ∷ []
permutations (x ∷ xs) = flat_map (at_each_place x) (permutations xs)

-- each transaction with each fate that it may have
abbrev pub with_fates : History → List ℕ → List (List Decision)
with_fates h [] = [] ∷ []
with_fates h (t ∷ ts) =
    (if is_allowed h t C then map (λ p. record { tx = t; fate = C } ∷ p) (with_fates h ts) else [])
    ++ (if is_allowed h t A then map (λ p. record { tx = t; fate = A } ∷ p) (with_fates h ts) else [])

abbrev pub all_orders : History → List (List Decision)
all_orders h = flat_map (with_fates h) (permutations (transactions h))

-- the orders that show H
abbrev pub witnesses : List Declared → History → List (List Decision)
witnesses objects h = filter (shows objects h) (all_orders h)
