-- Moves for each log of a running node: a sender for each item, which is given what a Knowledge was made of, and posts it.
use Rattle.std.proofs.Common.{◌≡◌, ◌≢◌, ℕ, zero, suc, ◌+◌, ◌<◌, List, [], ◌∷◌, ◌++◌, length, refl, sym, ap, subst, ◌∙◌, arith, inl, inr, append_assoc}
use Rattle.std.specs.List.{AllByRecursion}
use Rattle.std.proofs.Common.{length-append}
use Rattle.std.proofs.lemmas.List.{append-nil}
use Rattle.aud_event.specs.Meanings.{PlanOf}
use Rattle.aud_know.specs.Norms.{fact}
use Rattle.aud_know.specs.Known.{KnownAtom, norm_of}
use Rattle.aud_know.specs.Findings.{found}
use Rattle.aud_know.specs.declared.item.Item.{Item}
use Rattle.aud_know.specs.declared.item.Item.TheVariants as item
use Rattle.aud_world.specs.Clouds.{Cloud, at_place, gain}
use Rattle.aud_world.specs.Moves.{after_moves, at_first, brought, IsTrueMove}
use Rattle.aud_world.specs.Logs.{IsLog, IsTrueItem}
use Rattle.aud_world.specs.declared.moves.Move.{Move}
use Rattle.aud_world.specs.declared.moves.Move.TheVariants.{Feed, Find, Post, Deliver}
use Rattle.aud_world.proofs.Logging.{gained_here, gained_elsewhere, nothing_at_first}
use Rattle.aud_world.proofs.Moving.{all_append, as_many, length_replicate}

gained_none : (n : ℕ) (xss : List (List KnownAtom)) → gain n [] xss ≡ xss
gained_none n [] = refl
gained_none zero (xs ∷ xss) = ap (λ l. l ∷ xss) (append-nil xs)
gained_none (suc n) (xs ∷ xss) = ap (λ l. xs ∷ l) (gained_none n xss)

gained_twice : (n : ℕ) (more again : List KnownAtom) (xss : List (List KnownAtom)) → gain n again (gain n more xss) ≡ gain n (more ++ again) xss
gained_twice n more again [] = refl
gained_twice zero more again (xs ∷ xss) = ap (λ l. l ∷ xss) (append_assoc xs more again)
gained_twice (suc n) more again (xs ∷ xss) = ap (λ l. xs ∷ l) (gained_twice n more again xss)

-- what some moves bring, given to one node
abbrev given : {X : Type 0} → ℕ → List (Move X) → List (Move X)
given j [] = []
given j (Feed n f ∷ ms) = Feed j f ∷ given j ms
given j (Find n g ∷ ms) = Find j g ∷ given j ms
given j (Post n ∷ ms) = given j ms
given j (Deliver k n ∷ ms) = given j ms

-- the cloud in which a node gained these atoms
abbrev with : Cloud → ℕ → List KnownAtom → Cloud
with c j more = record { nodes = gain j more c.nodes; packets = c.packets }

with_none : (c : Cloud) (j : ℕ) → c ≡ with c j []
with_none c j = λ i. record { nodes = sym (gained_none j c.nodes) i; packets = c.packets }

with_twice : (c : Cloud) (j : ℕ) (more again : List KnownAtom) → with (with c j more) j again ≡ with c j (more ++ again)
with_twice c j more again = λ i. record { nodes = gained_twice j more again c.nodes i; packets = c.packets }

after_given : {X : Type 0} (c : Cloud) (j : ℕ) (ms : List (Move X)) → after_moves c (given j ms) ≡ with c j (brought ms)
after_given c j [] = with_none c j
after_given c j (Feed n f ∷ ms) = after_given (with c j (fact f ∷ [])) j ms ∙ with_twice c j (fact f ∷ []) (brought ms)
after_given c j (Find n g ∷ ms) = after_given (with c j (found g)) j ms ∙ with_twice c j (found g) (brought ms)
after_given c j (Post n ∷ ms) = after_given c j ms
after_given c j (Deliver k n ∷ ms) = after_given c j ms

true_given : {X : Type 0} (plan : PlanOf) (j : ℕ) (ms : List (Move X)) → AllByRecursion (IsTrueMove plan) ms → AllByRecursion (IsTrueMove plan) (given j ms)
true_given plan j [] t = tt
true_given plan j (Feed n f ∷ ms) t = (t.0, true_given plan j ms t.1)
true_given plan j (Find n g ∷ ms) t = (t.0, true_given plan j ms t.1)
true_given plan j (Post n ∷ ms) t = true_given plan j ms t.1
true_given plan j (Deliver k n ∷ ms) t = true_given plan j ms t.1

not_first : (j : ℕ) → suc j ≢ zero
not_first j e = absurd (omega (arith, e))

-- the first node takes nothing by what is given to another
passing : {X : Type 0} (c : Cloud) (j : ℕ) (ms tail : List (Move X)) (log : List (Item X)) → IsLog zero (after_moves c (given (suc j) ms)) tail log → IsLog zero c (given (suc j) ms ++ tail) log
passing c j [] tail log h = h
passing c j (Feed n f ∷ ms) tail log h = inl (not_first j, passing (with c (suc j) (fact f ∷ [])) j ms tail log h)
passing c j (Find n g ∷ ms) tail log h = inl (not_first j, passing (with c (suc j) (found g)) j ms tail log h)
passing c j (Post n ∷ ms) tail log h = passing c j ms tail log h
passing c j (Deliver k n ∷ ms) tail log h = passing c j ms tail log h

at_last : (xss : List (List KnownAtom)) (ys : List KnownAtom) (j : ℕ) → length xss ≡ j → at_place (xss ++ ys ∷ []) j ≡ ys
at_last [] ys zero e = refl
at_last [] ys (suc j) e = absurd (omega (arith, e))
at_last (xs ∷ xss) ys zero e = absurd (omega (arith, e))
at_last (xs ∷ xss) ys (suc j) e = at_last xss ys j (omega (arith, e))

-- so many packets were posted, and there are so many nodes more after them that took nothing
record IsFresh (j more : ℕ) (c : Cloud) : Type 0 where
  packets : length c.packets ≡ j
  room : j + more < length c.nodes
  unused : (i : ℕ) → j < i → at_place c.nodes i ≡ []

-- the first node gains some atoms
gained_first : (j more : ℕ) (c : Cloud) (xs : List KnownAtom) → IsFresh j more c → IsFresh j more (with c zero xs)
gained_first j more c xs s = record {
  packets = s.packets;
  room = subst (λ k. j + more < k) (sym (as_many zero xs c.nodes)) s.room;
  unused = λ i lt. gained_elsewhere c.nodes zero i xs (λ e. absurd (omega (arith, lt, e))) ∙ s.unused i lt;
}

one_less : (j more : ℕ) (c : Cloud) → IsFresh j (suc more) c → IsFresh j more c
one_less j more c s = record { packets = s.packets; room = (let lt = s.room in omega arith); unused = s.unused }

-- a sender that is given some atoms has exactly them
sent : (j more : ℕ) (c : Cloud) (xs : List KnownAtom) → IsFresh j (suc more) c → at_place (gain (suc j) xs c.nodes) (suc j) ≡ xs
sent j more c xs s =
    gained_here c.nodes (suc j) xs (let lt = s.room in omega arith) ∙ ap (λ l. l ++ xs) (s.unused (suc j) (omega arith))

-- the sender posts what it was given
posted : (j more : ℕ) (c : Cloud) (xs ys : List KnownAtom) → IsFresh j (suc more) c →
    IsFresh (suc j) more (record { nodes = gain (suc j) xs c.nodes; packets = c.packets ++ ys ∷ [] })
posted j more c xs ys s = record {
  packets = (let len = s.packets in omega (arith, length-append c.packets (ys ∷ [])));
  room = subst (λ k. suc j + more < k) (sym (as_many (suc j) xs c.nodes)) (let lt = s.room in omega arith);
  unused = λ i lt. gained_elsewhere c.nodes (suc j) i xs (λ e. absurd (omega (arith, lt, e))) ∙ s.unused i (omega (arith, lt));
}

module _ {X : Type 0} (plan : PlanOf) where
  -- moves by which the first node takes the log
  abbrev Moves : Cloud → List (Item X) → Type 0
  Moves c log = (moves : List (Move X)) × AllByRecursion (IsTrueMove plan) moves × IsLog zero c moves log

  moves_of : (log : List (Item X)) (j : ℕ) (c : Cloud) → IsFresh j (length log) c → AllByRecursion (IsTrueItem plan) log → Moves c log
  moves_of [] j c s t = ([], tt, refl)
  moves_of (item.Fact f ∷ log) j c s t =
      let rest = moves_of log j (with c zero (fact f ∷ [])) (gained_first j (length log) c (fact f ∷ []) (one_less j (length log) c s)) t.1 in
      (Feed zero f ∷ rest.0, (t.0, rest.1), inr (item.Fact f, log, refl, refl, refl, rest.2))
  moves_of (item.Finding g ∷ log) j c s t =
      let rest = moves_of log j (with c zero (found g)) (gained_first j (length log) c (found g) (one_less j (length log) c s)) t.1 in
      (Find zero g ∷ rest.0, (t.0, rest.1), inr (item.Finding g, log, refl, refl, refl, rest.2))
  moves_of (item.Known k ∷ log) j c s t =
      let ms : List (Move X) = t.0.0 in
      let packet = at_place (gain (suc j) (brought ms) c.nodes) (suc j) in
      let after_post : Cloud = record { nodes = gain (suc j) (brought ms) c.nodes; packets = c.packets ++ packet ∷ [] } in
      let fresh : IsFresh (suc j) (length log) after_post = posted j (length log) c (brought ms) packet s in
      let there = at_last c.packets packet j s.packets in
      let rest = moves_of log (suc j) (with after_post zero (at_place after_post.packets j)) (gained_first (suc j) (length log) after_post (at_place after_post.packets j) fresh) t.1 in
      let tail : List (Move X) = Post (suc j) ∷ Deliver j zero ∷ rest.0 in
      let holds : k.value.held ≡ norm_of (at_place after_post.packets j) = t.0.2 ∙ ap norm_of (sym (sent j (length log) c (brought ms) s)) ∙ ap norm_of (sym there) in
      let in_range : j < length after_post.packets = (let len = fresh.packets in omega arith) in
      let takes : IsLog zero (with c (suc j) (brought ms)) tail (item.Known k ∷ log) = inl (tt, inr (item.Known k, log, refl, refl, (in_range, holds), rest.2)) in (
        given (suc j) ms ++ tail,
        all_append (IsTrueMove plan) (given (suc j) ms) tail (true_given plan (suc j) ms t.0.1) (tt, (tt, rest.1)),
        passing c j ms tail (item.Known k ∷ log) (subst (λ (d : Cloud). IsLog zero d tail (item.Known k ∷ log)) (sym (after_given c (suc j) ms)) takes),
      )

  pub has_moves : (log : List (Item X)) → AllByRecursion (IsTrueItem plan) log → Moves (at_first (suc (length log))) log
  has_moves log t =
      let count = suc (length log) in
      let many : length (at_first count).nodes ≡ count = length_replicate count [] in
      moves_of log zero (at_first count) (record {
        packets = refl;
        room = subst (λ k. zero + length log < k) (sym many) (omega arith);
        unused = λ i lt. nothing_at_first count i;
      }) t
