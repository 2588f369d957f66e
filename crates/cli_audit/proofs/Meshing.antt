-- Nodes, collectors and crews, one more and one less.
use Rattle.std.proofs.Common.{◌≡◌, ◌≢◌, ◌<◌, ◌+◌, ◌%◌, ◌++◌, ◌∷◌, [], ℕ, suc, List, None, All, Contains, false, length, get_or, sym, ap, subst, refl, ◌∙◌, arith, length-append}
use Rattle.std.proofs.lemmas.List.{get_or_append_left, get_or_push}
use mathlib.Core.Logic.{dite}
use native.Mathlib.Decide.{ℕ_discrete}
use Rattle.std.proofs.lemmas.List.Elements.{Contains-get_or}
use Rattle.std.proofs.lemmas.Nat.{mod_below}
use Rattle.logbook.specs.Pages.{Book}
use Rattle.aud_event.specs.Meanings.{PlanOf}
use Rattle.aud_witness.specs.declared.decision.Decision.{Decision}
use Rattle.aud_order.specs.Shapes.{ShapeOf}
use Rattle.aud_node.specs.Meanings.{NodeOf, OpenedOf}
use Rattle.cli_audit.specs.Seats.{AreMatched, AreOpenedFrom, CrewOf, CollectorOf, Each, IsCrewAt, IsCollectorAt}
use Rattle.cli_audit.specs.Meshes.{IsMesh}
use Rattle.cli_audit.specs.Searches.{HasEnded, HaveEnded, SharesHaveEnded}

module _ {T : Type 0} (xs : List T) (x : T) where
  count : length (xs ++ x ∷ []) ≡ length xs + 1
  count = length-append xs (x ∷ [])

  module _ (P : ℕ → T → Type 0) where
    pub each_add : Each P xs → P (length xs) x → Each P (xs ++ x ∷ [])
    each_add all one k d lt =
        dite (ℕ_discrete k (length xs))
        (λ (e : k ≡ length xs). subst (λ (j : ℕ). P j (get_or (xs ++ x ∷ []) j d)) (sym e) (subst (P (length xs)) (sym (get_or_push xs x d (length xs) refl)) one))
        (λ (ne : k ≢ length xs). let inside : k < length xs = omega (arith, lt, ne, count) in subst (P k) (sym (get_or_append_left xs (x ∷ []) d k inside)) (all k d inside))

    pub each_less : Each P (xs ++ x ∷ []) → Each P xs
    each_less all k d lt = subst (P k) (get_or_append_left xs (x ∷ []) d k lt) (all k d (omega (arith, lt, count)))

    pub each_last : Each P (xs ++ x ∷ []) → P (length xs) x
    each_last all = subst (P (length xs)) (get_or_push xs x x (length xs) refl) (all (length xs) x (omega (arith, count)))

module _ {S T : Type 0} (P : S → T → Type 0) (xs : List S) (ys : List T) (x : S) (y : T) where
  pub matched_add : AreMatched P xs ys → P x y → AreMatched P (xs ++ x ∷ []) (ys ++ y ∷ [])
  matched_add all one = record {
    count = count ys y ∙ ap (λ (k : ℕ). k + 1) all.count ∙ sym (count xs x);
    each = λ k a b lt.
        dite (ℕ_discrete k (length xs))
        (λ (e : k ≡ length xs).
        subst (λ (v : S). P v (get_or (ys ++ y ∷ []) k b)) (sym (get_or_push xs x a k (sym e)))
        (subst (P x) (sym (get_or_push ys y b k (all.count ∙ sym e))) one))
        (λ (ne : k ≢ length xs).
        let inside : k < length xs = (let c = count xs x in omega (arith, lt, ne, c)) in
        let also : k < length ys = (let same = all.count in omega (arith, inside, same)) in
        subst (λ (v : S). P v (get_or (ys ++ y ∷ []) k b)) (sym (get_or_append_left xs (x ∷ []) a k inside))
        (subst (P (get_or xs k a)) (sym (get_or_append_left ys (y ∷ []) b k also)) (all.each k a b inside)));
  }

  same_count : AreMatched P (xs ++ x ∷ []) (ys ++ y ∷ []) → length ys ≡ length xs
  same_count all = let a = all.count in let b = count xs x in let c = count ys y in omega (arith, a, b, c)

  pub matched_less : AreMatched P (xs ++ x ∷ []) (ys ++ y ∷ []) → AreMatched P xs ys
  matched_less all = record {
    count = same_count all;
    each = λ k a b lt.
        let same = same_count all in
        let c = count xs x in
        let also : k < length ys = omega (arith, lt, same) in
        subst (λ (v : S). P v (get_or ys k b)) (get_or_append_left xs (x ∷ []) a k lt)
        (subst (P (get_or (xs ++ x ∷ []) k a)) (get_or_append_left ys (y ∷ []) b k also) (all.each k a b (omega (arith, lt, c))));
  }

  pub matched_last : AreMatched P (xs ++ x ∷ []) (ys ++ y ∷ []) → P x y
  matched_last all =
      let c = count xs x in
      subst (λ (v : S). P v y) (get_or_push xs x x (length xs) refl)
      (subst (P (get_or (xs ++ x ∷ []) (length xs) x)) (get_or_push ys y y (length xs) (same_count all)) (all.each (length xs) x y (omega (arith, c))))

module _ (plan : PlanOf) (nodes : List NodeOf) (collectors : List CollectorOf) (crews : List CrewOf) (n : NodeOf) (d : CollectorOf) (c : CrewOf) where
  pub mesh_add : IsMesh plan nodes collectors crews → n.number ≡ length nodes → n.plan ≡ plan → IsCollectorAt n d → IsCrewAt n c → IsMesh plan (nodes ++ n ∷ []) (collectors ++ d ∷ []) (crews ++ c ∷ [])
  mesh_add mesh number planned collector crew = record {
    numbered = each_add nodes n (λ k m. m.number ≡ k) mesh.numbered number;
    planned = each_add nodes n (λ k m. m.plan ≡ plan) mesh.planned planned;
    collectors_at = matched_add IsCollectorAt nodes collectors n d mesh.collectors_at collector;
    crews_at = matched_add IsCrewAt nodes crews n c mesh.crews_at crew;
  }

  module _ (mesh : IsMesh plan (nodes ++ n ∷ []) (collectors ++ d ∷ []) (crews ++ c ∷ [])) where
    pub mesh_less : IsMesh plan nodes collectors crews
    mesh_less = record {
      numbered = each_less nodes n (λ k m. m.number ≡ k) mesh.numbered;
      planned = each_less nodes n (λ k m. m.plan ≡ plan) mesh.planned;
      collectors_at = matched_less IsCollectorAt nodes collectors n d mesh.collectors_at;
      crews_at = matched_less IsCrewAt nodes crews n c mesh.crews_at;
    }

    pub last_planned : n.plan ≡ plan
    last_planned = each_last nodes n (λ k m. m.plan ≡ plan) mesh.planned

    pub last_collector : IsCollectorAt n d
    last_collector = matched_last IsCollectorAt nodes collectors n d mesh.collectors_at

    pub last_crew : IsCrewAt n c
    last_crew = matched_last IsCrewAt nodes crews n c mesh.crews_at

-- a mesh whose lists have a last
pub mesh_last : (plan : PlanOf) (nodes ns : List NodeOf) (collectors ds : List CollectorOf) (crews cs : List CrewOf) (n : NodeOf) (d : CollectorOf) (c : CrewOf) →
    nodes ≡ ns ++ n ∷ [] → collectors ≡ ds ++ d ∷ [] → crews ≡ cs ++ c ∷ [] → IsMesh plan nodes collectors crews → IsMesh plan (ns ++ n ∷ []) (ds ++ d ∷ []) (cs ++ c ∷ [])
mesh_last plan nodes ns collectors ds crews cs n d c e f h mesh =
    subst (λ (l : List NodeOf). IsMesh plan l (ds ++ d ∷ []) (cs ++ c ∷ [])) e
    (subst (λ (l : List CollectorOf). IsMesh plan nodes l (cs ++ c ∷ [])) f
    (subst (λ (l : List CrewOf). IsMesh plan nodes collectors l) h mesh))

-- # New histories

pub opened_next : (n : ℕ) (book : ℕ → Book) (o : OpenedOf) (os : List OpenedOf) → AreOpenedFrom n book (o ∷ os) → AreOpenedFrom (n + 1) book os
opened_next n book o os all k d lt =
    let one = all (suc k) d (omega (arith, lt)) in
    let e : n + suc k ≡ (n + 1) + k = omega arith in
    (one.0 ∙ e, one.1 ∙ ap book e)

pub opened_first : (n : ℕ) (book : ℕ → Book) (o : OpenedOf) (os : List OpenedOf) → AreOpenedFrom n book (o ∷ os) → o.number ≡ n
opened_first n book o os all =
    let e : n + 0 ≡ n = omega arith in
    (all 0 o (omega arith)).0 ∙ e

-- # The ends of all tasks

pub all_ended : (s : ShapeOf) (budget : ℕ) (tasks : List (List Decision)) (plan : PlanOf) (nodes : List NodeOf) (collectors : List CollectorOf) (crews : List CrewOf) →
    SharesHaveEnded s budget tasks nodes crews → IsMesh plan nodes collectors crews → 0 < length nodes → All (λ (c : CrewOf). c.failed ≡ false) crews →
    (t : List Decision) → Contains tasks t → HaveEnded s budget crews t
all_ended s budget tasks plan nodes collectors crews shares mesh some done t (k, lt, is) =
    let i = k % length nodes in
    let low : i < length nodes = mod_below k (length nodes) some in
    let same = mesh.crews_at.count in
    let also : i < length crews = omega (arith, low, same) in
    let n : NodeOf = record { number = 0; plan = plan; seats = 0 } in
    let c : CrewOf = record { passes = []; senders = 0; taken = None; failed = false } in
    let ended = shares.each i n c low (done i c also) k t lt (sym (mesh.numbered i n low)) in
    (get_or crews i c, (Contains-get_or crews i c also, subst (λ (u : List Decision). HasEnded s budget (get_or crews i c).passes u) is ended))
