-- What a transaction sees in S and what it sees in the order is the same on each object.
use Rattle.std.proofs.Common.{◌≡◌, ℕ, Bool, true, false, cond, not, ◌&&◌, ◌||◌, List, [], ◌∷◌, ◌++◌, refl, sym, ◌∙◌, ap, subst}
use Rattle.aud_event.specs.declared.fact.Event.{Event}
use Rattle.aud_event.specs.Meanings.{Declared}
use Rattle.aud_witness.specs.declared.decision.Decision.{Decision}
use Rattle.aud_history.specs.Histories.{History, is_in, is_completed, is_before, from_first}
use Rattle.aud_kinds.specs.Objects.{on_object, opening_of, IsInSeq, IsLegal}
use Rattle.aud_witness.specs.Orders.{block, is_kept, is_named, stands_before, kept, visible}
use Rattle.aud_witness.specs.Letter.{seen_by}
use Rattle.base_values.proofs.Bools.{and_true, not_true}
use Rattle.aud_witness.proofs.Beginnings.{is_named-append, visible_at}
use Rattle.aud_witness.proofs.Good.{place_of, stands_at}
use Rattle.aud_object.proofs.Replays.{on_object-append}
use Rattle.aud_witness.proofs.Blocks.{joined_by, kept_by, IsOrder, is_in-from_first, seen_by-block}

pub IsLegal-same : (objects : List Declared) (a b : List Event) → ((ob : ℕ) → on_object ob a ≡ on_object ob b) → IsLegal objects a → IsLegal objects b
IsLegal-same objects a b same legal ob d e = subst (λ l. IsInSeq (opening_of d) l) (same ob) (legal ob d e)

kept_by-same : (f : Decision → List Event) (h : History) (ob : ℕ) (a : List Decision) → ((d : Decision) → on_object ob (f d) ≡ on_object ob (block h d)) →
    on_object ob (kept_by f a) ≡ on_object ob (kept h a)
kept_by-same f h ob [] same = refl
kept_by-same f h ob (d ∷ a) same =
    elim (is_kept d) as (λ k. on_object ob (cond k (f d ++ kept_by f a) (kept_by f a)) ≡ on_object ob (cond k (block h d ++ kept h a) (kept h a))) [
      | true ↦
          on_object-append ob (f d) (kept_by f a)
          ∙ ap (λ l. l ++ on_object ob (kept_by f a)) (same d)
          ∙ ap (λ l. on_object ob (block h d) ++ l) (kept_by-same f h ob a same)
          ∙ sym (on_object-append ob (block h d) (kept h a))
      | false ↦ kept_by-same f h ob a same
    ]

pub seen_by-visible : (f : Decision → List Event) (h : History) (p : List Decision) (t : ℕ) → IsOrder f p → is_named p t ≡ true →
    ((ob : ℕ) (d : Decision) → on_object ob (f d) ≡ on_object ob (block h d)) →
    (ob : ℕ) → on_object ob (seen_by (joined_by f p) t) ≡ on_object ob (visible h p t)
seen_by-visible f h p t order named same ob =
    let (a, (d, (b, (e, is_t, new)))) = place_of p t named in
    let order_at : IsOrder f (a ++ d ∷ b) = subst (λ l. IsOrder f l) e order in
    let new_d : is_named a d.tx ≡ false = subst (λ n. is_named a n ≡ false) (sym is_t) new in
    let at_place : on_object ob (seen_by (joined_by f (a ++ d ∷ b)) d.tx) ≡ on_object ob (visible h (a ++ d ∷ b) d.tx) =
    ap (on_object ob) (seen_by-block f a d b order_at)
    ∙ on_object-append ob (kept_by f a) (f d)
    ∙ ap (λ l. l ++ on_object ob (f d)) (kept_by-same f h ob a (same ob))
    ∙ ap (λ l. on_object ob (kept h a) ++ l) (same ob d)
    ∙ sym (on_object-append ob (kept h a) (block h d))
    ∙ ap (on_object ob) (sym (visible_at h a d b new_d)) in
    subst (λ l. on_object ob (seen_by (joined_by f l) t) ≡ on_object ob (visible h l t)) (sym e)
    (subst (λ n. on_object ob (seen_by (joined_by f (a ++ d ∷ b)) n) ≡ on_object ob (visible h (a ++ d ∷ b) n)) is_t at_place)

-- before in S stands before in the order
pub stands_before-blocks : (f : Decision → List Event) (p : List Decision) (t u : ℕ) → IsOrder f p → is_named p t ≡ true → is_named p u ≡ true →
    is_before (joined_by f p) t u ≡ true → stands_before p t u ≡ true
stands_before-blocks f p t u order there_t there_u before =
    let s : History = joined_by f p in
    let gone : is_in (from_first u s) t ≡ false = not_true (is_in (from_first u s) t) ((and_true (is_completed s t && is_in s u) (not (is_in (from_first u s) t)) before).1) in
    let (a, (d, (b, (e, is_u, new)))) = place_of p u there_u in
    let order_at : IsOrder f (a ++ d ∷ b) = subst (λ l. IsOrder f l) e order in
    let gone_at : is_in (from_first d.tx (joined_by f (a ++ d ∷ b))) t ≡ false =
    subst (λ n. is_in (from_first n (joined_by f (a ++ d ∷ b))) t ≡ false) (sym is_u) (subst (λ l. is_in (from_first u (joined_by f l)) t ≡ false) e gone) in
    let off : is_named (d ∷ b) t ≡ false = sym (is_in-from_first f a d b t order_at) ∙ gone_at in
    let there_at : (is_named a t || is_named (d ∷ b) t) ≡ true = sym (is_named-append a (d ∷ b) t) ∙ subst (λ l. is_named l t ≡ true) e there_t in
    let front : is_named a t ≡ true = or_left (is_named a t) (is_named (d ∷ b) t) off there_at in
    subst (λ l. stands_before l t u ≡ true) (sym e) (subst (λ n. stands_before (a ++ d ∷ b) t n ≡ true) is_u (stands_at a d b t front))
  where
    or_left : (x y : Bool) → y ≡ false → (x || y) ≡ true → x ≡ true
    or_left true y none h = refl
    or_left false y none h = absurd (cc)
