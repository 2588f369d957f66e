-- The tasks of a node's share.
use Rattle.std.proofs.Common.{◌≡◌, ◌<◌, ◌≤◌, ◌+◌, ◌%◌, ◌++◌, ◌∷◌, [], ℕ, zero, suc, List, Bool, true, false, Contains, if◌then◌else◌, nat_eq, length, get_or, drop, sym, ap, subst, refl, ◌∙◌, arith, append_assoc, append-nil}
use Rattle.std.proofs.Math.ListN.{drop_of_length-le}
use Rattle.std.proofs.lemmas.List.{at_drop_more}
use Rattle.std.proofs.lemmas.List.Elements.{Contains-append_right}
use Rattle.base_values.proofs.Bools.{is_false, nat_eq-is, nat_eq-refl}
use Rattle.aud_witness.specs.declared.decision.Decision.{Decision}
use Rattle.cli_audit.specs.Searches.{IsShare, share_from}

module _ (nodes number : ℕ) where
  here : (place : ℕ) → place % nodes ≡ number → nat_eq (place % nodes) number ≡ true
  here place is = subst (λ (n : ℕ). nat_eq (place % nodes) n ≡ true) is (nat_eq-refl (place % nodes))

  elsewhere : (place : ℕ) → (place % nodes ≡ number → ⊥) → nat_eq (place % nodes) number ≡ false
  elsewhere place other = is_false (nat_eq (place % nodes) number) (λ is. other (nat_eq-is (place % nodes) number is))

  mine : (place : ℕ) (t : List Decision) (ts : List (List Decision)) → nat_eq (place % nodes) number ≡ true → share_from nodes number place (t ∷ ts) ≡ t ∷ share_from nodes number (place + 1) ts
  mine place t ts is = rw is refl

  others : (place : ℕ) (t : List Decision) (ts : List (List Decision)) → nat_eq (place % nodes) number ≡ false → share_from nodes number place (t ∷ ts) ≡ share_from nodes number (place + 1) ts
  others place t ts is = rw is refl

  module _ (tasks : List (List Decision)) (place : ℕ) (share new : List (List Decision)) where
    -- one task more is in the share
    pub share_more : (x : List Decision) → place < length tasks → new ≡ share ++ x ∷ [] → x ≡ get_or tasks place x → place % nodes ≡ number →
        share_from nodes number 0 tasks ≡ share ++ share_from nodes number place (drop place tasks) →
        share_from nodes number 0 tasks ≡ new ++ share_from nodes number (place + 1) (drop (place + 1) tasks)
    share_more x lt is read own before =
        let later = share_from nodes number (place + 1) (drop (place + 1) tasks) in
        let step : share_from nodes number place (drop place tasks) ≡ x ∷ later
        = at_drop_more (share_from nodes number place) tasks place x lt ∙ mine place (get_or tasks place x) (drop (place + 1) tasks) (here place own) ∙ ap (λ (y : List Decision). y ∷ later) (sym read) in
        before ∙ ap (λ (l : List (List Decision)). share ++ l) step ∙ sym (append_assoc share (x ∷ []) later) ∙ ap (λ (l : List (List Decision)). l ++ later) (sym is)

    -- one task more is another node's
    pub share_same : place < length tasks → new ≡ share → (place % nodes ≡ number → ⊥) →
        share_from nodes number 0 tasks ≡ share ++ share_from nodes number place (drop place tasks) →
        share_from nodes number 0 tasks ≡ new ++ share_from nodes number (place + 1) (drop (place + 1) tasks)
    share_same lt is other before =
        let later = share_from nodes number (place + 1) (drop (place + 1) tasks) in
        let step : share_from nodes number place (drop place tasks) ≡ later
        = at_drop_more (share_from nodes number place) tasks place [] lt ∙ others place (get_or tasks place []) (drop (place + 1) tasks) (elsewhere place other) in
        before ∙ ap (λ (l : List (List Decision)). share ++ l) step ∙ ap (λ (l : List (List Decision)). l ++ later) (sym is)

  -- all tasks were looked at
  pub share_whole : (tasks : List (List Decision)) (place : ℕ) (share : List (List Decision)) → length tasks ≤ place →
      share_from nodes number 0 tasks ≡ share ++ share_from nodes number place (drop place tasks) → IsShare tasks nodes number share
  share_whole tasks place share all before =
      sym (before ∙ ap (λ (l : List (List Decision)). share ++ share_from nodes number place l) (drop_of_length-le tasks all) ∙ append-nil share)

  kept : (b : Bool) (t x : List Decision) (ts : List (List Decision)) → Contains ts x → Contains (if b then t ∷ ts else ts) x
  kept true t x ts there = Contains-append_right (t ∷ []) ts x there
  kept false t x ts there = there

  -- each task of the node's is in the share
  pub share_has : (tasks : List (List Decision)) (place k : ℕ) (d : List Decision) → k < length tasks → (place + k) % nodes ≡ number → Contains (share_from nodes number place tasks) (get_or tasks k d)
  share_has [] place k d lt own = absurd (omega arith)
  share_has (t ∷ ts) place zero d lt own =
      let same : place + zero ≡ place = omega arith in
      subst (λ (l : List (List Decision)). Contains l t) (sym (mine place t ts (here place (subst (λ (n : ℕ). n % nodes ≡ number) same own)))) (0, omega arith, refl)
  share_has (t ∷ ts) place (suc k) d lt own =
      let same : place + suc k ≡ (place + 1) + k = omega arith in
      kept (nat_eq (place % nodes) number) t (get_or ts k d) (share_from nodes number (place + 1) ts)
      (share_has ts (place + 1) k d (omega (arith, lt)) (subst (λ (n : ℕ). n % nodes ≡ number) same own))
