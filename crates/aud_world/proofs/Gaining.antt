-- One of many gains atoms.
use Rattle.std.proofs.Common.{◌≡◌, ℕ, zero, suc, ◌<◌, List, [], ◌∷◌, ◌++◌, map, length, slice_index_or, slice_set, replicate, refl, sym, ap, subst, ◌∙◌, arith, inl, inr, Bor}
use Rattle.std.specs.Prelude.{Option, Some, None, slice_get, ◌≤◌, MatchOption}
use Rattle.std.specs.List.{HoldsAt}
use Rattle.std.specs.Option.{option_copied}
use Rattle.std.proofs.lemmas.Option.{get_or_from_slice_get, slice_get_within, slice_get_read, slice_get_cases}
use Rattle.aud_event.specs.Meanings.{PlanOf}
use Rattle.aud_know.specs.Norms.{atoms_of}
use Rattle.aud_know.specs.Known.{KnownAtom, KnowledgeOf, knowing, norm_of, Takes}
use Rattle.aud_world.specs.Clouds.{Cloud, gain, Gains, at_place}
use Rattle.aud_world.specs.Worlds.{WorldOf, IsWorldOf, AreOfPlan}

same_head : {A : Type 0} (x y : A) (xs ys : List A) → x ∷ xs ≡ y ∷ ys → x ≡ y
same_head x y xs ys e = cc

same_tail : {A : Type 0} (x y : A) (xs ys : List A) → x ∷ xs ≡ y ∷ ys → xs ≡ ys
same_tail x y xs ys e = cc

-- what is written at a place gains there, and nowhere else
module _ (plan : PlanOf) (more : List KnownAtom) where
  gained : (old : List KnowledgeOf) (n : ℕ) (k k' : KnowledgeOf) (xss : List (List KnownAtom)) → n < length old → k ≡ slice_index_or old n k → k'.plan ≡ k.plan → Takes k.held k'.held more →
      old ≡ map (knowing plan) xss → slice_set old n k' ≡ map (knowing plan) (gain n more xss)
  gained [] n k k' xss lt here same taken e = absurd (omega (arith, lt))
  gained (x ∷ old) n k k' [] lt here same taken e = absurd cc
  gained (x ∷ old) zero k k' (xs ∷ xss) lt here same taken e =
      let first : k ≡ knowing plan xs = here ∙ same_head x (knowing plan xs) old (map (knowing plan) xss) e in
      let held = taken xs (ap (λ r. r.held) first) in
      let rest = same_tail x (knowing plan xs) old (map (knowing plan) xss) e in
      λ i. record { plan = (same ∙ ap (λ r. r.plan) first) i; held = held i } ∷ rest i
  gained (x ∷ old) (suc n) k k' (xs ∷ xss) lt here same taken e =
      let rest = gained old n k k' xss (omega (arith, lt)) here same taken (same_tail x (knowing plan xs) old (map (knowing plan) xss) e) in
      λ i. same_head x (knowing plan xs) old (map (knowing plan) xss) e i ∷ rest i

pub gains : (more : List KnownAtom) (old : List KnowledgeOf) (n : ℕ) (k k' : KnowledgeOf) → n < length old → k ≡ slice_index_or old n k → k'.plan ≡ k.plan → Takes k.held k'.held more → Gains n more old (slice_set old n k')
gains more old n k k' lt here same taken plan xss e = gained plan more old n k k' xss lt here same taken e

-- a Knowledge of the same plan leaves the plans
pub plans : (old : List KnowledgeOf) (n : ℕ) (k k' : KnowledgeOf) → n < length old → k ≡ slice_index_or old n k → k'.plan ≡ k.plan → map (λ (k : KnowledgeOf). k.plan) (slice_set old n k') ≡ map (λ (k : KnowledgeOf). k.plan) old
plans [] n k k' lt here same = absurd (omega (arith, lt))
plans (x ∷ old) zero k k' lt here same = ap (λ p. p ∷ map (λ (k : KnowledgeOf). k.plan) old) (same ∙ ap (λ r. r.plan) here)
plans (x ∷ old) (suc n) k k' lt here same = ap (λ l. x.plan ∷ l) (plans old n k k' (omega (arith, lt)) here same)

-- the same plans, as many
pub of_plan : (plan : PlanOf) (old new : List KnowledgeOf) → map (λ (k : KnowledgeOf). k.plan) new ≡ map (λ (k : KnowledgeOf). k.plan) old → AreOfPlan plan old → AreOfPlan plan new
of_plan plan old [] e all = tt
of_plan plan [] (y ∷ new) e all = absurd cc
of_plan plan (x ∷ old) (y ∷ new) e all = (
  same_head y.plan x.plan (map (λ (k : KnowledgeOf). k.plan) new) (map (λ (k : KnowledgeOf). k.plan) old) e ∙ all.0,
  of_plan plan old new (same_tail y.plan x.plan (map (λ (k : KnowledgeOf). k.plan) new) (map (λ (k : KnowledgeOf). k.plan) old) e) all.1,
)

pub as_many : (old new : List KnowledgeOf) → map (λ (k : KnowledgeOf). k.plan) new ≡ map (λ (k : KnowledgeOf). k.plan) old → length new ≡ length old
as_many [] [] e = refl
as_many [] (y ∷ new) e = absurd cc
as_many (x ∷ old) [] e = absurd cc
as_many (x ∷ old) (y ∷ new) e =
    ap suc (as_many old new (same_tail y.plan x.plan (map (λ (k : KnowledgeOf). k.plan) new) (map (λ (k : KnowledgeOf). k.plan) old) e))

pub of_plan_at : (plan : PlanOf) (ks : List KnowledgeOf) (n : ℕ) (k : KnowledgeOf) → AreOfPlan plan ks → slice_get ks n ≡ Some k → k.plan ≡ plan
of_plan_at plan [] n k all e = absurd cc
of_plan_at plan (x ∷ ks) zero k all e = ap (λ r. r.plan) (sym (get_or_from_slice_get (x ∷ ks) zero k x e)) ∙ all.0
of_plan_at plan (x ∷ ks) (suc n) k all e = of_plan_at plan ks n k all.1 e

pub of_plan_push : (plan : PlanOf) (ks : List KnowledgeOf) (k : KnowledgeOf) → AreOfPlan plan ks → k.plan ≡ plan → AreOfPlan plan (ks ++ k ∷ [])
of_plan_push plan [] k all e = (e, tt)
of_plan_push plan (x ∷ ks) k all e = (all.0, of_plan_push plan ks k all.1 e)

pub length_map : {A B : Type 0} (f : A → B) (xs : List A) → length (map f xs) ≡ length xs
length_map f [] = refl
length_map f (x ∷ xs) = ap suc (length_map f xs)

pub of_plan_replicate : (plan : PlanOf) (k : KnowledgeOf) (n : ℕ) → k.plan ≡ plan → AreOfPlan plan (replicate n k)
of_plan_replicate plan k zero e = tt
of_plan_replicate plan k (suc n) e = (e, of_plan_replicate plan k n e)

-- what is known at a place
pub at_known : (plan : PlanOf) (xss : List (List KnownAtom)) (n : ℕ) → n < length xss → slice_get (map (knowing plan) xss) n ≡ Some (knowing plan (at_place xss n))
at_known plan [] n lt = absurd (omega (arith, lt))
at_known plan (xs ∷ xss) zero lt = refl
at_known plan (xs ∷ xss) (suc n) lt = at_known plan xss n (omega (arith, lt))

-- who stands at a place of all that is known has the atoms at that place
pub knows_at : (plan : PlanOf) (ks : List KnowledgeOf) (xss : List (List KnownAtom)) (n : ℕ) (k : KnowledgeOf) → ks ≡ map (knowing plan) xss → slice_get ks n ≡ Some k → k ≡ knowing plan (at_place xss n)
knows_at plan ks xss n k e there =
    let in_range : n < length xss = subst (λ l. n < l) (ap length e ∙ length_map (knowing plan) xss) (slice_get_within ks n k there) in
    sym (get_or_from_slice_get ks n k k there) ∙ ap (λ l. slice_index_or l n k) e ∙ get_or_from_slice_get (map (knowing plan) xss) n (knowing plan (at_place xss n)) k (at_known plan xss n in_range)

pub map_push : {A B : Type 0} (f : A → B) (xs : List A) (y : A) → map f (xs ++ y ∷ []) ≡ map f xs ++ f y ∷ []
map_push f [] y = refl
map_push f (x ∷ xs) y = ap (λ l. f x ∷ l) (map_push f xs y)

pub map_replicate : {A B : Type 0} (f : A → B) (n : ℕ) (x : A) → replicate n (f x) ≡ map f (replicate n x)
map_replicate f zero x = refl
map_replicate f (suc n) x = ap (λ l. f x ∷ l) (map_replicate f n x)

-- atoms that a normal form absorbed are gained with it
module _ (absorbs : (xs ys : List KnownAtom) → norm_of (ys ++ atoms_of (norm_of xs)) ≡ norm_of (ys ++ xs)) where
  absorbed : (plan : PlanOf) (xs : List KnownAtom) (n : ℕ) (xss : List (List KnownAtom)) → map (knowing plan) (gain n (atoms_of (norm_of xs)) xss) ≡ map (knowing plan) (gain n xs xss)
  absorbed plan xs n [] = refl
  absorbed plan xs zero (ys ∷ xss) = λ i. record { plan = plan; held = absorbs xs ys i } ∷ map (knowing plan) xss
  absorbed plan xs (suc n) (ys ∷ xss) = ap (λ l. knowing plan ys ∷ l) (absorbed plan xs n xss)

  pub delivered : (w w' : WorldOf) (c : Cloud) (k n : ℕ) (packet : KnowledgeOf) → IsWorldOf w c → slice_get w.packets k ≡ Some packet →
      w'.plan ≡ w.plan → w'.packets ≡ w.packets → Gains n (atoms_of packet.held) w.nodes w'.nodes →
      IsWorldOf w' (record { nodes = gain n (at_place c.packets k) c.nodes; packets = c.packets })
  delivered w w' c k n packet s there plan packets gained =
      let same : packet ≡ knowing w.plan (at_place c.packets k) = knows_at w.plan w.packets c.packets k packet s.packets there in
      record {
        nodes = gained w.plan c.nodes s.nodes ∙ ap (λ r. map (knowing w.plan) (gain n (atoms_of r.held) c.nodes)) same ∙ absorbed w.plan (at_place c.packets k) n c.nodes ∙ ap (λ p. map (knowing p) (gain n (at_place c.packets k) c.nodes)) (sym plan);
        packets = packets ∙ s.packets ∙ ap (λ p. map (knowing p) c.packets) (sym plan);
      }

pub taken : (w w' : WorldOf) (c : Cloud) (n : ℕ) (more : List KnownAtom) → IsWorldOf w c →
    w'.plan ≡ w.plan → w'.packets ≡ w.packets → Gains n more w.nodes w'.nodes → IsWorldOf w' (record { nodes = gain n more c.nodes; packets = c.packets })
taken w w' c n more s plan packets gained = record {
  nodes = gained w.plan c.nodes s.nodes ∙ ap (λ p. map (knowing p) (gain n more c.nodes)) (sym plan);
  packets = packets ∙ s.packets ∙ ap (λ p. map (knowing p) c.packets) (sym plan);
}

pub posted : (w w' : WorldOf) (c : Cloud) (n : ℕ) (node : KnowledgeOf) → IsWorldOf w c → slice_get w.nodes n ≡ Some node →
    w'.plan ≡ w.plan → w'.nodes ≡ w.nodes → w'.packets ≡ w.packets ++ node ∷ [] →
    IsWorldOf w' (record { nodes = c.nodes; packets = c.packets ++ at_place c.nodes n ∷ [] })
posted w w' c n node s there plan nodes packets = record {
  nodes = nodes ∙ s.nodes ∙ ap (λ p. map (knowing p) c.nodes) (sym plan);
  packets =
      packets ∙ (λ i. s.packets i ++ knows_at w.plan w.nodes c.nodes n node s.nodes there i ∷ []) ∙ sym (map_push (knowing w.plan) c.packets (at_place c.nodes n))
      ∙ ap (λ p. map (knowing p) (c.packets ++ at_place c.nodes n ∷ [])) (sym plan);
}

-- what stands at a place, as it was looked up
pub looked_up : {A : Type 0} (xs : List A) (n : ℕ) (o : Option (Bor A)) → MatchOption o (length xs ≤ n) (λ x. (n < length xs) × HoldsAt (λ y. x.now ≡ y) xs n) → option_copied o ≡ slice_get xs n
looked_up xs n None far = elim (slice_get_cases xs n).1 [ inl p ↦ absurd (omega (arith, far, p.1)) | inr p ↦ sym p.1 ]
looked_up xs n (Some x) h = sym (slice_get_read xs (length xs) n x.now refl h.0 (h.1 x.now))
