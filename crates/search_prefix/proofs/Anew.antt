-- What stays once a memo may have been begun anew.
use Rattle.std.specs.Prelude.{◌≡◌, ◌-◌, ◌<◌, ℕ, zero, suc, List, [], ◌∷◌, ◌++◌, map, length, take, reverse, refl}
use Rattle.std.proofs.Common.{sym, ◌∙◌, ap, subst, inl, inr, arith, get_or}
use Rattle.std.proofs.lemmas.List.{reverse-append, map-append}
use Rattle.aud_kinds.specs.Objects.{ObjState}
use Rattle.aud_witness.specs.declared.decision.Decision.{Decision}
use Rattle.aud_order.specs.Shapes.{ShapeOf}
use Rattle.search_memo.specs.declared.choice.Choice.{Choice}
use Rattle.search_prefix.specs.declared.searching.Frame.{Frame}
use Rattle.search_memo.specs.Memos.{MemoOf, NameWay}
use Rattle.search_prefix.specs.Frames.{unnumbered, HasRoomMade}
use Rattle.search_prefix.proofs.Recording.{AreOpen}
use Rattle.search_prefix.proofs.Steps.{next_of, states_of}

reverse-map : {X Y : Type 0} (f : X → Y) (xs : List X) → reverse (map f xs) ≡ map f (reverse xs)
reverse-map f [] = refl
reverse-map f (x ∷ xs) =
    reverse-append (f x ∷ []) (map f xs) ∙ ap (λ l. l ++ f x ∷ []) (reverse-map f xs) ∙ sym (map-append f (reverse xs) (x ∷ [])) ∙ ap (map f) (sym (reverse-append (x ∷ []) xs))

-- where an element stands it does not count what else there would be
pub get-any : {X : Type 0} (xs : List X) (i : ℕ) (d e : X) → i < length xs → get_or xs i d ≡ get_or xs i e
get-any [] i d e inside = absurd (omega arith)
get-any (x ∷ xs) zero d e inside = refl
get-any (x ∷ xs) (suc i) d e inside = get-any xs i d e (omega arith)

-- # Frames whose states have no number

nexts-same : (ts : List Frame) → map next_of (map unnumbered ts) ≡ map next_of ts
nexts-same [] = refl
nexts-same (t ∷ ts) = ap (λ l. t.next ∷ l) (nexts-same ts)

way-none : (shape : ShapeOf) (all : List (List ObjState)) (ts : List Frame) (p : List Decision) → NameWay shape all (map states_of (map unnumbered ts)) p
way-none shape all [] p = tt
way-none shape all (t ∷ ts) p = (tt, way-none shape all ts (take (length p - 1) p))

opens-same : (P : List Decision → Type 0) (shape : ShapeOf) (cs : List Choice) (ts : List Frame) (p : List Decision) → AreOpen P shape cs ts p → AreOpen P shape cs (map unnumbered ts) p
opens-same P shape cs [] p opens = tt
opens-same P shape cs (t ∷ ts) p (q, (d, (is, o, rest))) = (
  q,
  (d, (is, record { place = o.place; choice = o.choice; at = o.at; is = o.is; kept = o.kept; good = o.good; next = o.next }, opens-same P shape cs ts q rest)),
)

-- # What stays

module _ {V : Type 0} (old new : MemoOf V) (frames later : List Frame) (here now : Frame) (made : HasRoomMade old new frames later here now) where
  pub room-next : now.next ≡ here.next
  room-next = elim made.numbers [ inl (states, same, own) ↦ ap (λ (t : Frame). t.next) own | inr (same, own) ↦ ap (λ (t : Frame). t.next) own ]

  pub room-silent : now.silent ≡ here.silent
  room-silent = elim made.numbers [ inl (states, same, own) ↦ ap (λ (t : Frame). t.silent) own | inr (same, own) ↦ ap (λ (t : Frame). t.silent) own ]

  pub room-nexts : map next_of later ≡ map next_of frames
  room-nexts = elim made.numbers [ inl (states, same, own) ↦ ap (map next_of) same | inr (same, own) ↦ ap (map next_of) same ∙ nexts-same frames ]

  pub room-way : (shape : ShapeOf) (p : List Decision) → NameWay shape old.states (here.states ∷ reverse (map states_of frames)) p → NameWay shape new.states (now.states ∷ reverse (map states_of later)) p
  room-way shape p way = elim made.numbers [
    | inl (states, same, own) ↦ subst (λ l. NameWay shape l (now.states ∷ reverse (map states_of later)) p) (sym states)
        (subst (λ (ts : List Frame). NameWay shape old.states (now.states ∷ reverse (map states_of ts)) p) (sym same)
        (subst (λ (t : Frame). NameWay shape old.states (t.states ∷ reverse (map states_of frames)) p) (sym own) way))
    | inr (same, own) ↦ subst (λ (ts : List Frame). NameWay shape new.states (now.states ∷ reverse (map states_of ts)) p) (sym same)
        (subst (λ (t : Frame). NameWay shape new.states (t.states ∷ reverse (map states_of (map unnumbered frames))) p) (sym own) (
          tt,
          subst (λ l. NameWay shape new.states l (take (length p - 1) p)) (sym (reverse-map states_of (map unnumbered frames) ∙ ap (map states_of) (reverse-map unnumbered frames)))
              (way-none shape new.states (reverse frames) (take (length p - 1) p)),
        ))
  ]

  pub room-opens : (P : List Decision → Type 0) (shape : ShapeOf) (cs : List Choice) (p : List Decision) → AreOpen P shape cs (reverse frames) p → AreOpen P shape cs (reverse later) p
  room-opens P shape cs p opens = elim made.numbers [
    | inl (states, same, own) ↦ subst (λ (ts : List Frame). AreOpen P shape cs (reverse ts) p) (sym same) opens
    | inr (same, own) ↦ subst (λ (ts : List Frame). AreOpen P shape cs (reverse ts) p) (sym same)
        (subst (λ (ts : List Frame). AreOpen P shape cs ts p) (sym (reverse-map unnumbered frames)) (opens-same P shape cs (reverse frames) p opens))
  ]
