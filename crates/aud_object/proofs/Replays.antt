-- Legality over lists of events that follow one another.
use Rattle.std.proofs.Common.{◌≡◌, ℕ, true, false, cond, nat_eq, List, [], ◌∷◌, ◌++◌, refl, ap}
use Rattle.aud_event.specs.declared.fact.Event.{Event}
use Rattle.aud_event.specs.declared.fact.Event.TheVariants.{Inv, Ret}
use Rattle.aud_event.specs.Objects.{name_of}
use Rattle.aud_kinds.specs.Objects.{ObjState, after_op, is_on, on_object, IsInSeq}
use Rattle.aud_object.specs.Executions.{AreExecutions, no_execution, execution, state_after}

pub on_object-append : (ob : ℕ) (a b : List Event) → on_object ob (a ++ b) ≡ on_object ob a ++ on_object ob b
on_object-append ob [] b = refl
on_object-append ob (e ∷ a) b =
    elim (is_on ob e) as (λ k. cond k (e ∷ on_object ob (a ++ b)) (on_object ob (a ++ b)) ≡ cond k (e ∷ on_object ob a) (on_object ob a) ++ on_object ob b) [
      | true ↦ ap (λ l. e ∷ l) (on_object-append ob a b)
      | false ↦ on_object-append ob a b
    ]

-- executions, looked at on one object, are executions
pub AreExecutions-on_object : (ob : ℕ) {es : List Event} → AreExecutions es → AreExecutions (on_object ob es)
AreExecutions-on_object ob no_execution = no_execution
AreExecutions-on_object ob (execution {ob = o} {op = op} {answer = answer} {es = es} are) =
    elim (nat_eq o ob) as (λ k. AreExecutions (cond k (Inv o op ∷ cond k (Ret o (name_of op) answer ∷ on_object ob es) (on_object ob es)) (cond k (Ret o (name_of op) answer ∷ on_object ob es) (on_object ob es)))) [
      | true ↦ execution (AreExecutions-on_object ob are)
      | false ↦ AreExecutions-on_object ob are
    ]

pub IsInSeq-append : (s : ObjState) {a : List Event} (b : List Event) → AreExecutions a → IsInSeq s a → IsInSeq (state_after s a) b → IsInSeq s (a ++ b)
IsInSeq-append s b no_execution p q = q
IsInSeq-append s b (execution {ob = o} {op = op} {es = es} are) p q = (p.0, IsInSeq-append (after_op s op) b are p.1 q)

pub IsInSeq-split : (s : ObjState) {a : List Event} (b : List Event) → AreExecutions a → IsInSeq s (a ++ b) → IsInSeq s a × IsInSeq (state_after s a) b
IsInSeq-split s b no_execution p = (tt, p)
IsInSeq-split s b (execution {ob = o} {op = op} {es = es} are) p =
    let rest : IsInSeq (after_op s op) es × IsInSeq (state_after (after_op s op) es) b = IsInSeq-split (after_op s op) b are p.1 in
    ((p.0, rest.0), rest.1)

pub state_after-append : (s : ObjState) {a : List Event} (b : List Event) → AreExecutions a → state_after s (a ++ b) ≡ state_after (state_after s a) b
state_after-append s b no_execution = refl
state_after-append s b (execution {ob = o} {op = op} {es = es} are) = state_after-append (after_op s op) b are
