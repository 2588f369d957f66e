-- What a node of a world took as a log: the log makes known what the node holds.
use Rattle.std.proofs.Common.{◌≡◌, ◌≢◌, ℕ, zero, suc, ◌+◌, ◌<◌, List, [], ◌∷◌, ◌++◌, length, take, replicate, refl, sym, ap, subst, ◌∙◌, arith, inl, inr, append_assoc}
use Rattle.std.specs.List.{Contains}
use Rattle.std.proofs.lemmas.List.{append-nil}
use Rattle.std.proofs.lemmas.List.Elements.{Contains-append_left, Contains-append_right, Contains-append_cases}
use Rattle.aud_event.specs.Meanings.{PlanOf}
use Rattle.aud_know.specs.Norms.{fact, atoms_of}
use Rattle.aud_know.specs.Known.{Held, KnownAtom, KnowledgeOf, norm_of}
use Rattle.aud_know.specs.Findings.{found}
use Rattle.aud_know.specs.Items.{item_atoms}
use Rattle.aud_know.specs.Laws.{NormIsOfSet, NormAbsorbs}
use Rattle.aud_know.specs.declared.item.Item.{Item}
use Rattle.aud_know.specs.declared.item.Item.TheVariants as item
use Rattle.aud_world.specs.Clouds.{Cloud, at_place, gain}
use Rattle.aud_world.specs.Moves.{after_move, after_moves, at_first, atoms}
use Rattle.aud_world.specs.Faults.{node_of}
use Rattle.aud_world.specs.Logs.{atoms_of_log, IsTakenBy, PassesBy, IsLog, IsHeldBy}
use Rattle.aud_world.specs.declared.moves.Move.{Move}
use Rattle.aud_world.specs.declared.moves.Move.TheVariants.{Feed, Find, Post, Deliver}
use Rattle.aud_world.proofs.Moving.{as_many_after, length_replicate}

pub gained_here : (xss : List (List KnownAtom)) (n : ℕ) (more : List KnownAtom) → n < length xss → at_place (gain n more xss) n ≡ at_place xss n ++ more
gained_here [] n more lt = absurd (omega (arith, lt))
gained_here (xs ∷ xss) zero more lt = refl
gained_here (xs ∷ xss) (suc n) more lt = gained_here xss n more (omega (arith, lt))

pub gained_elsewhere : (xss : List (List KnownAtom)) (at n : ℕ) (more : List KnownAtom) → at ≢ n → at_place (gain at more xss) n ≡ at_place xss n
gained_elsewhere [] at n more other = refl
gained_elsewhere (xs ∷ xss) zero zero more other = absurd (other refl)
gained_elsewhere (xs ∷ xss) zero (suc n) more other = refl
gained_elsewhere (xs ∷ xss) (suc at) zero more other = refl
gained_elsewhere (xs ∷ xss) (suc at) (suc n) more other = gained_elsewhere xss at n more (λ e. other (ap suc e))

pub nothing_at_first : (count n : ℕ) → at_place (replicate count []) n ≡ []
nothing_at_first zero n = refl
nothing_at_first (suc count) zero = refl
nothing_at_first (suc count) (suc n) = nothing_at_first count n

-- a move by which the node takes nothing leaves its atoms
stays : {X : Type 0} (n : ℕ) (c : Cloud) (m : Move X) → PassesBy n m → at_place (after_move c m).nodes n ≡ at_place c.nodes n
stays n c (Feed at f) by = gained_elsewhere c.nodes at n (fact f ∷ []) by
stays n c (Find at g) by = gained_elsewhere c.nodes at n (found g) by
stays n c (Post at) by = refl
stays n c (Deliver k at) by = gained_elsewhere c.nodes at n (at_place c.packets k) by

turned_in : (xs ys : List KnownAtom) (a : KnownAtom) → Contains (xs ++ ys) a → Contains (ys ++ xs) a
turned_in xs ys a h = elim (Contains-append_cases xs ys a h) [ inl left ↦ Contains-append_right ys xs a left | inr right ↦ Contains-append_left ys xs a right ]

same_first : {A : Type 0} (x y : A) (xs ys : List A) → x ∷ xs ≡ y ∷ ys → x ≡ y
same_first x y xs ys e = cc

same_rest : {A : Type 0} (x y : A) (xs ys : List A) → x ∷ xs ≡ y ∷ ys → xs ≡ ys
same_rest x y xs ys e = cc

not_none : {A : Type 0} (x : A) (xs : List A) → x ∷ xs ≡ [] → ⊥
not_none x xs e = cc

-- each beginning of what a node took is what it took by some of the first moves
begun : {X : Type 0} (n : ℕ) (c : Cloud) (ms : List (Move X)) (log view rest : List (Item X)) → log ≡ view ++ rest → IsLog n c ms log → (i : ℕ) × IsLog n c (take i ms) view
begun n c [] log [] rest e h = (zero, refl)
begun n c [] log (v ∷ view) rest e h = absurd (not_none v (view ++ rest) (sym e ∙ h))
begun n c (m ∷ ms) log [] rest e h = (zero, refl)
begun {X} n c (m ∷ ms) log (v ∷ view) rest e h = elim h [
  | inl past ↦ let more = begun n (after_move c m) ms log (v ∷ view) rest e past.1 in (suc more.0, inl (past.0, more.1))
  | inr took ↦
      let parts : v ∷ (view ++ rest) ≡ took.0 ∷ took.1 = sym e ∙ took.2 in
      let more = begun n (after_move c m) ms took.1 view rest (sym (same_rest v took.0 (view ++ rest) took.1 parts)) took.5 in
      (suc more.0, inr (took.0, view, ap (λ (i : Item X). i ∷ view) (same_first v took.0 (view ++ rest) took.1 parts), took.3, took.4, more.1))
]

module _ (of_set : NormIsOfSet) (absorbs : NormAbsorbs) where
  turned : (xs ys : List KnownAtom) → norm_of (xs ++ ys) ≡ norm_of (ys ++ xs)
  turned xs ys = of_set (xs ++ ys) (ys ++ xs) (turned_in xs ys) (turned_in ys xs)

  -- what has one normal form has one with more atoms
  alike : (xs ys more : List KnownAtom) → norm_of xs ≡ norm_of ys → norm_of (xs ++ more) ≡ norm_of (ys ++ more)
  alike xs ys more e =
      turned xs more ∙ sym (absorbs xs more) ∙ ap (λ (h : Held). norm_of (more ++ atoms_of h)) e ∙ absorbs ys more ∙ turned more ys

  -- what the node gains by a move is what it takes by it
  took : {X : Type 0} (n : ℕ) (c : Cloud) (m : Move X) (i : Item X) (done : List KnownAtom) → n < length c.nodes → node_of m ≡ n → IsTakenBy c m i →
      norm_of (at_place c.nodes n) ≡ norm_of done → norm_of (at_place (after_move c m).nodes n) ≡ norm_of (done ++ item_atoms i)
  took {X} n c (Feed at f) i done lt here by e =
      ap (λ k. norm_of (at_place (gain k (fact f ∷ []) c.nodes) n)) here ∙ ap norm_of (gained_here c.nodes n (fact f ∷ []) lt)
      ∙ alike (at_place c.nodes n) done (fact f ∷ []) e ∙ ap (λ (j : Item X). norm_of (done ++ item_atoms j)) (sym by)
  took {X} n c (Find at g) i done lt here by e =
      ap (λ k. norm_of (at_place (gain k (found g) c.nodes) n)) here ∙ ap norm_of (gained_here c.nodes n (found g) lt)
      ∙ alike (at_place c.nodes n) done (found g) e ∙ ap (λ (j : Item X). norm_of (done ++ item_atoms j)) (sym by)
  took n c (Post at) i done lt here by e = absurd by
  took n c (Deliver k at) (item.Fact f) done lt here by e = absurd by.1
  took n c (Deliver k at) (item.Finding g) done lt here by e = absurd by.1
  took n c (Deliver k at) (item.Known p) done lt here by e =
      let packet = at_place c.packets k in
      ap (λ j. norm_of (at_place (gain j packet c.nodes) n)) here ∙ ap norm_of (gained_here c.nodes n packet lt)
      ∙ alike (at_place c.nodes n) done packet e ∙ sym (absorbs packet done) ∙ ap (λ (h : Held). norm_of (done ++ atoms_of h)) (sym by.1)

  followed : {X : Type 0} (n : ℕ) (c : Cloud) (ms : List (Move X)) (log : List (Item X)) (done : List KnownAtom) → n < length c.nodes → IsLog n c ms log →
      norm_of (at_place c.nodes n) ≡ norm_of done → norm_of (at_place (after_moves c ms).nodes n) ≡ norm_of (done ++ atoms_of_log log)
  followed {X} n c [] log done lt h e = e ∙ ap norm_of (sym (append-nil done)) ∙ ap (λ (l : List (Item X)). norm_of (done ++ atoms_of_log l)) (sym h)
  followed {X} n c (m ∷ ms) log done lt h e =
      let still : n < length (after_move c m).nodes = subst (λ k. n < k) (sym (as_many_after c m)) lt in
      elim h [
        | inl past ↦ followed n (after_move c m) ms log done still past.1 (ap norm_of (stays n c m past.0) ∙ e)
        | inr by ↦
            followed n (after_move c m) ms by.1 (done ++ item_atoms by.0) still by.5 (took n c m by.0 done lt by.3 by.4 e)
            ∙ ap norm_of (append_assoc done (item_atoms by.0) (atoms_of_log by.1)) ∙ ap (λ (l : List (Item X)). norm_of (done ++ atoms_of_log l)) (sym by.2)
      ]

  held : {X : Type 0} (count n : ℕ) (ms : List (Move X)) (log : List (Item X)) → n < count → IsLog n (at_first count) ms log → norm_of (atoms_of_log log) ≡ norm_of (atoms count ms n)
  held count n ms log lt h =
      let many : length (at_first count).nodes ≡ count = length_replicate count [] in
      sym (followed n (at_first count) ms log [] (subst (λ k. n < k) (sym many) lt) h (ap norm_of (nothing_at_first count n)))

  pub held_by : {X : Type 0} (plan : PlanOf) (count n : ℕ) (ms : List (Move X)) (log : List (Item X)) → n < count → IsLog n (at_first count) ms log → IsHeldBy plan count n ms log
  held_by plan count n ms log lt h =
      let made : Held → KnowledgeOf = λ h. record { plan = plan; held = h } in
      record {
        whole = ap made (held count n ms log lt h);
        views = λ view rest e.
            let first = begun n (at_first count) ms log view rest e h in
            (first.0, ap made (held count n (take first.0 ms) view lt first.1));
      }
