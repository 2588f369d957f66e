-- One more move of a run, and what is said of all of them.
use Rattle.std.proofs.Common.{◌≡◌, ℕ, ◌+◌, ◌<◌, List, [], ◌∷◌, ◌++◌, length, map, take, slice_index_or, sym, ap, subst, ◌∙◌}
use Rattle.std.specs.List.{AllByRecursion}
use Rattle.std.proofs.lemmas.List.{take_more}
use Rattle.aud_event.specs.Meanings.{PlanOf}
use Rattle.aud_world.specs.Clouds.{Cloud}
use Rattle.aud_world.specs.Moves.{after_move, after_moves, at_first, IsTrueMove}
use Rattle.aud_world.specs.Worlds.{WorldOf, IsWorldOf}
use Rattle.aud_world.specs.Faults.{IsAllowed, AreAllowed}
use Rattle.aud_know.specs.Known.{knowing}
use Rattle.aud_world.specs.Headline.{HeadlineHolds, KeepsHeadline}
use Rattle.aud_world.specs.declared.moves.Move.{Move}
use Rattle.aud_world.proofs.Moving.{all_push, all_append, moves_append}

-- the run of the first moves, from any atoms
abbrev pub Leads : {X : Type 0} → WorldOf → List (Move X) → WorldOf → Type 0
Leads old moves new = (c : Cloud) → IsWorldOf old c → IsWorldOf new (after_moves c moves)

pub leads_more : {X : Type 0} (old mid new : WorldOf) (moves : List (Move X)) (i : ℕ) (m : Move X) → i < length moves → m ≡ slice_index_or moves i m →
    Leads old (take i moves) mid → ((c : Cloud) → IsWorldOf mid c → IsWorldOf new (after_move c m)) → Leads old (take (i + 1) moves) new
leads_more {X} old mid new moves i m lt e before step c s =
    subst (λ (l : List (Move X)). IsWorldOf new (after_moves c l)) (sym (take_more moves i m lt ∙ ap (λ x. take i moves ++ x ∷ []) (sym e)))
    (subst (IsWorldOf new) (sym (moves_append c (take i moves) (m ∷ []))) (step (after_moves c (take i moves)) (before c s)))

-- a refused move leads nowhere else
pub led_back : {X : Type 0} (old mid new : WorldOf) (moves : List (Move X)) → new ≡ mid → Leads old moves mid → Leads old moves new
led_back {X} old mid new moves e before = subst (λ (v : WorldOf). Leads old moves v) (sym e) before

pub all_more : {A : Type 0} (P : A → Type 0) (xs : List A) (i : ℕ) (x : A) → i < length xs → x ≡ slice_index_or xs i x → AllByRecursion P (take i xs) → P x → AllByRecursion P (take (i + 1) xs)
all_more P xs i x lt e h k = subst (AllByRecursion P) (sym (take_more xs i x lt ∙ ap (λ y. take i xs ++ y ∷ []) (sym e))) (all_push P (take i xs) x h k)

pub keeps : {X : Type 0} → HeadlineHolds X → (old new : WorldOf) (done : List (Move X)) → new.plan ≡ old.plan → Leads old done new → AllByRecursion (IsTrueMove old.plan) done → KeepsHeadline old done new
keeps law old new done plan leads truth past before s =
    law (length old.nodes) (past ++ done) new
    (subst (λ (p : PlanOf). AllByRecursion (IsTrueMove p) (past ++ done)) (sym plan) (all_append (IsTrueMove old.plan) past done before truth))
    (subst (IsWorldOf new) (sym (moves_append (at_first (length old.nodes)) past done)) (leads (after_moves (at_first (length old.nodes)) past) s))

-- # Each move was allowed

-- worlds of one plan that stand for the same are the same
one_world : (v w : WorldOf) (c : Cloud) → v.plan ≡ w.plan → IsWorldOf v c → IsWorldOf w c → v ≡ w
one_world v w c plan a b =
    let nodes : v.nodes ≡ w.nodes = a.nodes ∙ ap (λ p. map (knowing p) c.nodes) plan ∙ sym b.nodes in
    let packets : v.packets ≡ w.packets = a.packets ∙ ap (λ p. map (knowing p) c.packets) plan ∙ sym b.packets in
    λ i. record { plan = plan i; nodes = nodes i; packets = packets i }

allowed_push : {X : Type 0} (plan : PlanOf) (c : Cloud) (ms : List (Move X)) (m : Move X) → AreAllowed plan c ms →
    ((w : WorldOf) → w.plan ≡ plan → IsWorldOf w (after_moves c ms) → IsAllowed w m) → AreAllowed plan c (ms ++ m ∷ [])
allowed_push plan c [] m all last = (last, tt)
allowed_push plan c (x ∷ ms) m all last = (all.0, allowed_push plan (after_move c x) ms m all.1 last)

-- the moves were allowed, from any atoms
abbrev pub Allows : {X : Type 0} → WorldOf → List (Move X) → Type 0
Allows old moves = (c : Cloud) → IsWorldOf old c → AreAllowed old.plan c moves

pub allows_more : {X : Type 0} (old mid : WorldOf) (moves : List (Move X)) (i : ℕ) (m : Move X) → i < length moves → m ≡ slice_index_or moves i m →
    Leads old (take i moves) mid → mid.plan ≡ old.plan → Allows old (take i moves) → IsAllowed mid m → Allows old (take (i + 1) moves)
allows_more {X} old mid moves i m lt e leads plan before allowed c s =
    subst (λ (l : List (Move X)). AreAllowed old.plan c l) (sym (take_more moves i m lt ∙ ap (λ x. take i moves ++ x ∷ []) (sym e)))
    (allowed_push old.plan c (take i moves) m (before c s) (λ w same stands.
    subst (λ (v : WorldOf). IsAllowed v m) (one_world mid w (after_moves c (take i moves)) (plan ∙ sym same) (leads c s) stands) allowed))
