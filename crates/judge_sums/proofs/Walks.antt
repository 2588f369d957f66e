-- What holds where a transaction runs in an order that shows, if it holds at first and each step keeps it.
use Rattle.std.specs.Prelude.{◌≡◌, ℕ, true, false, ◌||◌, nat_eq, List, [], ◌∷◌, Option, Some, None, Result, Ok, Err, refl}
use Rattle.std.proofs.Common.{sym, ◌∙◌, ap, subst, inl, inr, cond}
use Rattle.base_values.proofs.Bools.{split, nat_eq-is}
use Rattle.aud_kinds.specs.Objects.{ObjState}
use Rattle.aud_object.specs.Replayed.{executed, replayed}
use Rattle.aud_history.specs.Histories.{History}
use Rattle.aud_history.specs.Table.{row_of, table_of}
use Rattle.aud_witness.specs.declared.decision.Fate.{Fate}
use Rattle.aud_witness.specs.declared.decision.Fate.TheVariants.{C, A}
use Rattle.aud_witness.specs.declared.decision.Decision.{Decision}
use Rattle.aud_witness.specs.declared.fault.OrderFault.{OrderFault}
use Rattle.aud_witness.specs.Orders.{is_named, is_kept}
use Rattle.aud_witness.specs.Configurations.{Configuration, states_with, stepped}
use Rattle.aud_witness.specs.Walks.{walked}
use Rattle.judge_clauses.proofs.Walking.{stepped-led}

-- R runs where this is so, before the rest of the order
pub record Arrives (h : History) (S : Type 0) (Inv : S → List Decision → List ObjState → Type 0) (a : S) (r : ℕ) : Type 0 where
  pub first : Decision
  pub rest : List Decision
  pub states : List ObjState
  pub ends : List ObjState
  pub is : first.tx ≡ r
  pub stands : Inv a (first ∷ rest) states
  pub ran : executed states (row_of h r).block.executions ≡ Some ends

module _ (h : History) (S : Type 0) (after : ℕ → S → S) where
  -- what is so where R runs, if each that is kept before it does this to it
  abbrev pub arrive : S → List Decision → ℕ → S
  arrive a [] r = a
  arrive a (d ∷ p) r = cond (nat_eq d.tx r) a (arrive (cond (is_kept d) (after d.tx a) a) p r)

  module _ (Inv : S → List Decision → List ObjState → Type 0)
      (step : (d : Decision) (p : List Decision) (a : S) (states ends : List ObjState) → Inv a (d ∷ p) states → executed states (row_of h d.tx).block.executions ≡ Some ends → Inv (after d.tx a) p ends)
      (skip : (d : Decision) (p : List Decision) (a : S) (states : List ObjState) → Inv a (d ∷ p) states → Inv a p states) where
    pub reached : (p : List Decision) (s t : Configuration) (a : S) (r : ℕ) → walked (table_of h) s p ≡ Some t → Inv a p s.states → is_named p r ≡ true → Arrives h S Inv (arrive a p r) r
    reached [] s t a r led inv there = absurd (cc)
    reached (d ∷ p) s t a r led inv there =
        elim (stepped (table_of h) s d) as (λ (z : Result Configuration OrderFault). stepped (table_of h) s d ≡ z → (elim z as (λ (_ : Result Configuration OrderFault). Option Configuration) [ Err _ ↦ None | Ok u ↦ walked (table_of h) u p ]) ≡ Some t →
        Arrives h S Inv (arrive a (d ∷ p) r) r) [
          | Err fault ↦ λ was on. absurd (cc)
          | Ok u ↦ λ was on.
              let (after_d, (ran, leads)) = stepped-led h s u d was in
              elim (split (nat_eq d.tx r)) [
                | inl same ↦
                    let is : d.tx ≡ r = nat_eq-is d.tx r same in
                    let here : arrive a (d ∷ p) r ≡ a = ap (λ b. cond b a (arrive (cond (is_kept d) (after d.tx a) a) p r)) same in
                    record {
                      first = d;
                      rest = p;
                      states = s.states;
                      ends = after_d;
                      is = is;
                      stands = subst (λ z. Inv z (d ∷ p) s.states) (sym here) inv;
                      ran = subst (λ m. executed s.states (row_of h m).block.executions ≡ Some after_d) is ran;
                    }
                | inr other ↦
                    let later : is_named p r ≡ true = sym (ap (λ b. b || is_named p r) other) ∙ there in
                    let past : arrive a (d ∷ p) r ≡ arrive (cond (is_kept d) (after d.tx a) a) p r = ap (λ b. cond b a (arrive (cond (is_kept d) (after d.tx a) a) p r)) other in
                    subst (λ z. Arrives h S Inv z r) (sym past) (go d.fate refl u after_d ran leads (λ b now. reached p u t b r on now later))
              ]
        ] refl led
      where
        go : (f : Fate) → d.fate ≡ f → (u : Configuration) (ends : List ObjState) → replayed s.states (row_of h d.tx).block ≡ Some ends → u.states ≡ states_with d.fate s.states ends →
            ((b : S) → Inv b p u.states → Arrives h S Inv (arrive b p r) r) → Arrives h S Inv (arrive (cond (is_kept d) (after d.tx a) a) p r) r
        go C fate u ends ran leads further =
            let kept : is_kept d ≡ true = ap (λ f. elim f [ C ↦ true | A ↦ false ]) fate in
            let states : u.states ≡ ends = leads ∙ ap (λ f. states_with f s.states ends) fate in
            subst (λ b. Arrives h S Inv (arrive (cond b (after d.tx a) a) p r) r) (sym kept) (further (after d.tx a) (subst (Inv (after d.tx a) p) (sym states) (step d p a s.states ends inv ran)))
        go A fate u ends ran leads further =
            let kept : is_kept d ≡ false = ap (λ f. elim f [ C ↦ true | A ↦ false ]) fate in
            let states : u.states ≡ s.states = leads ∙ ap (λ f. states_with f s.states ends) fate in
            subst (λ b. Arrives h S Inv (arrive (cond b (after d.tx a) a) p r) r) (sym kept) (further a (subst (Inv a p) (sym states) (skip d p a s.states inv)))
