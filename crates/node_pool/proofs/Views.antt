-- What changes in the lists that are gathered from all views when one view changes.
use Rattle.std.proofs.Common.{◌≡◌, ◌≢◌, ◌≤◌, ℕ, zero, suc, ◌+◌, List, [], ◌∷◌, ◌++◌, set, sym, refl, ap, ◌∙◌, subst, append_assoc, append-nil, Option, None, Some, arith}
use Rattle.std.specs.List.Sorted.{IsPermutation}
use Rattle.std.proofs.lemmas.List.Sorted.{IsPermutation-refl, IsPermutation-sym, IsPermutation-trans, IsPermutation-append_right, IsPermutation-append_left, IsPermutation-append_comm}
use mathlib.Core.Option.{some, some-ne-none, some-injective}
use lib.ListN.{get_elem?}
use Rattle.node_pool.specs.declared.rule.Tally.{Tally}
use Rattle.node_pool.specs.Rule.{idle, tasks_in, MarksLast, NoMark, gathered, parts_of}

module _ {T : Type 0} where
  -- equal lists are permutations of each other
  pub same : (xs ys : List T) → xs ≡ ys → IsPermutation xs ys
  same xs ys e = subst (IsPermutation xs) e (IsPermutation-refl xs)

  -- a ++ (b ++ c) in the order b ++ (a ++ c)
  pub rotate : (a b c : List T) → IsPermutation (a ++ (b ++ c)) (b ++ (a ++ c))
  rotate a b c =
      let one = same (a ++ (b ++ c)) ((a ++ b) ++ c) (sym (append_assoc a b c)) in
      let two = IsPermutation-append_left c (a ++ b) (b ++ a) (IsPermutation-append_comm a b) in
      let three = same ((b ++ a) ++ c) (b ++ (a ++ c)) (append_assoc b a c) in
      IsPermutation-trans _ _ _ one (IsPermutation-trans _ _ _ two three)

  -- the lists of all views but the one at port
  abbrev pub without : (Tally T → List T) → List (Tally T) → ℕ → List T
  without f [] port = []
  without f (v ∷ vs) zero = gathered f vs
  without f (v ∷ vs) (suc port) = f v ++ without f vs port

  pub pull : (f : Tally T → List T) (views : List (Tally T)) (port : ℕ) (v : Tally T) → get_elem? views port ≡ some v → IsPermutation (gathered f views) (f v ++ without f views port)
  pull f [] port v e = absurd (some-ne-none v (sym e))
  pull f (u ∷ us) zero v e = same _ _ (ap (λ (x : Tally T). f x ++ gathered f us) (some-injective u v e))
  pull f (u ∷ us) (suc port) v e = IsPermutation-trans _ _ _ (IsPermutation-append_right (f u) _ _ (pull f us port v e)) (rotate (f u) (f v) (without f us port))

  pub pull_set : (f : Tally T → List T) (views : List (Tally T)) (port : ℕ) (v w : Tally T) → get_elem? views port ≡ some v → IsPermutation (gathered f (set views port w)) (f w ++ without f views port)
  pull_set f [] port v w e = absurd (some-ne-none v (sym e))
  pull_set f (u ∷ us) zero v w e = IsPermutation-refl _
  pull_set f (u ∷ us) (suc port) v w e = IsPermutation-trans _ _ _ (IsPermutation-append_right (f u) _ _ (pull_set f us port v w e)) (rotate (f u) (f w) (without f us port))

  -- a view grew by xs
  pub grown : (f : Tally T → List T) (views : List (Tally T)) (port : ℕ) (v w : Tally T) (xs : List T) → get_elem? views port ≡ some v → f w ≡ f v ++ xs → IsPermutation (gathered f (set views port w)) (gathered f views ++ xs)
  grown f views port v w xs e is =
      let rest = without f views port in
      let one = pull_set f views port v w e in
      let two = same (f w ++ rest) ((f v ++ xs) ++ rest) (ap (λ l. l ++ rest) is) in
      let three = same ((f v ++ xs) ++ rest) (f v ++ (xs ++ rest)) (append_assoc (f v) xs rest) in
      let four = IsPermutation-append_right (f v) (xs ++ rest) (rest ++ xs) (IsPermutation-append_comm xs rest) in
      let five = same (f v ++ (rest ++ xs)) ((f v ++ rest) ++ xs) (sym (append_assoc (f v) rest xs)) in
      let six = IsPermutation-append_left xs (f v ++ rest) (gathered f views) (IsPermutation-sym _ _ (pull f views port v e)) in
      IsPermutation-trans _ _ _ one (IsPermutation-trans _ _ _ two (IsPermutation-trans _ _ _ three (IsPermutation-trans _ _ _ four (IsPermutation-trans _ _ _ five six))))

  -- a view stayed the same here
  pub kept : (f : Tally T → List T) (views : List (Tally T)) (port : ℕ) (v w : Tally T) → get_elem? views port ≡ some v → f w ≡ f v → gathered f (set views port w) ≡ gathered f views
  kept f [] port v w e is = refl
  kept f (u ∷ us) zero v w e is = ap (λ l. l ++ gathered f us) (is ∙ ap f (sym (some-injective u v e)))
  kept f (u ∷ us) (suc port) v w e is = ap (λ l. f u ++ l) (kept f us port v w e is)

  -- one view took in another
  pub joined : (f : Tally T → List T) (views : List (Tally T)) (port other : ℕ) (v u both spent : Tally T) → get_elem? views port ≡ some v → get_elem? views other ≡ some u → port ≢ other → f both ≡ f v ++ f u → f spent ≡ []
      → set (set views port both) other spent ≡ set (set views other spent) port both → get_elem? (set views other spent) port ≡ some v
      → IsPermutation (gathered f (set (set views port both) other spent)) (gathered f views)
  joined f views port other v u both spent at at' apart is none swap still =
      let one = same (gathered f (set (set views port both) other spent)) (gathered f (set (set views other spent) port both)) (ap (gathered f) swap) in
      let two = grown f (set views other spent) port v both (f u) still is in
      let three = pull_set f views other u spent at' in
      let three' = IsPermutation-trans _ _ _ three (same (f spent ++ without f views other) (without f views other) (ap (λ l. l ++ without f views other) none)) in
      let four = IsPermutation-append_left (f u) _ _ three' in
      let five = IsPermutation-append_comm (without f views other) (f u) in
      let six = IsPermutation-sym _ _ (pull f views other u at') in
      IsPermutation-trans _ _ _ one (IsPermutation-trans _ _ _ two (IsPermutation-trans _ _ _ four (IsPermutation-trans _ _ _ five six)))

  pub gathered-append : (f : Tally T → List T) (vs us : List (Tally T)) → gathered f (vs ++ us) ≡ gathered f vs ++ gathered f us
  gathered-append f [] us = refl
  gathered-append f (v ∷ vs) us = ap (λ l. f v ++ l) (gathered-append f vs us) ∙ sym (append_assoc (f v) (gathered f vs) (gathered f us))

  pub parts_set : (views : List (Tally T)) (port : ℕ) (v w : Tally T) → get_elem? views port ≡ some v → parts_of (set views port w) + v.parts ≡ parts_of views + w.parts
  parts_set [] port v w e = absurd (some-ne-none v (sym e))
  parts_set (u ∷ us) zero v w e = let s : u.parts ≡ v.parts = ap (λ (x : Tally T). x.parts) (some-injective u v e) in omega arith
  parts_set (u ∷ us) (suc port) v w e = let s = parts_set us port v w e in omega arith

  pub parts-append : (vs us : List (Tally T)) → parts_of (vs ++ us) ≡ parts_of vs + parts_of us
  parts-append [] us = omega arith
  parts-append (v ∷ vs) us = let s = parts-append vs us in omega arith

  pub parts_at : (views : List (Tally T)) (port : ℕ) (v : Tally T) → get_elem? views port ≡ some v → v.parts ≤ parts_of views
  parts_at [] port v e = absurd (some-ne-none v (sym e))
  parts_at (u ∷ us) zero v e = let s : u.parts ≡ v.parts = ap (λ (x : Tally T). x.parts) (some-injective u v e) in omega arith
  parts_at (u ∷ us) (suc port) v e = let s = parts_at us port v e in omega arith

  -- two views have no more parts than there are
  pub parts_two : (views : List (Tally T)) (port other : ℕ) (v u : Tally T) → get_elem? views port ≡ some v → get_elem? views other ≡ some u → other ≢ port → v.parts + u.parts ≤ parts_of views
  parts_two [] port other v u e e' n = absurd (some-ne-none v (sym e))
  parts_two (x ∷ xs) zero zero v u e e' n = absurd (n refl)
  parts_two (x ∷ xs) zero (suc other) v u e e' n = let s : x.parts ≡ v.parts = ap (λ (y : Tally T). y.parts) (some-injective x v e) in let t = parts_at xs other u e' in omega arith
  parts_two (x ∷ xs) (suc port) zero v u e e' n = let s : x.parts ≡ u.parts = ap (λ (y : Tally T). y.parts) (some-injective x u e') in let t = parts_at xs port v e in omega arith
  parts_two (x ∷ xs) (suc port) (suc other) v u e e' n = let s = parts_two xs port other v u e e' (λ h. n (ap suc h)) in omega arith

  -- where all views are idle, nothing is gathered
  pub none_gathered : (f : Tally T → List T) → f idle ≡ [] → (views : List (Tally T)) → parts_of views ≡ 0 → ((j : ℕ) (u : Tally T) → get_elem? views j ≡ some u → u.parts ≡ 0 → u ≡ idle) → gathered f views ≡ []
  none_gathered f none [] p all = refl
  none_gathered f none (v ∷ vs) p all =
      let here : v ≡ idle = all 0 v refl (omega arith) in
      let rest : gathered f vs ≡ [] = none_gathered f none vs (omega arith) (λ j u e z. all (suc j) u e z) in
      ap (λ l. f v ++ l) rest ∙ append-nil (f v) ∙ ap f here ∙ none

  -- who has every part knows all that is gathered
  pub whole : (f : Tally T → List T) → f idle ≡ [] → (views : List (Tally T)) (port : ℕ) (v : Tally T) → get_elem? views port ≡ some v → parts_of views ≡ v.parts → ((j : ℕ) (u : Tally T) → get_elem? views j ≡ some u → u.parts ≡ 0 → u ≡ idle) → gathered f views ≡ f v
  whole f none [] port v e p all = absurd (some-ne-none v (sym e))
  whole f none (x ∷ xs) zero v e p all =
      let same_view : x ≡ v = some-injective x v e in
      let s : x.parts ≡ v.parts = ap (λ (y : Tally T). y.parts) same_view in
      ap (λ l. f x ++ l) (none_gathered f none xs (omega arith) (λ j u e z. all (suc j) u e z)) ∙ append-nil (f x) ∙ ap f same_view
  whole f none (x ∷ xs) (suc port) v e p all =
      let t = parts_at xs port v e in
      let here : x ≡ idle = all 0 x refl (omega arith) in
      ap (λ l. l ++ gathered f xs) (ap f here ∙ none) ∙ whole f none xs port v e (omega arith) (λ j u e z. all (suc j) u e z)

  pub tasks-append : (xs ys : List (Option T)) → tasks_in (xs ++ ys) ≡ tasks_in xs ++ tasks_in ys
  tasks-append [] ys = refl
  tasks-append (None ∷ xs) ys = tasks-append xs ys
  tasks-append (Some x ∷ xs) ys = ap (λ l. x ∷ l) (tasks-append xs ys)

  pub marks_then_task : (xs : List (Option T)) (x : T) → NoMark xs → MarksLast (xs ++ Some x ∷ []) × NoMark (xs ++ Some x ∷ [])
  marks_then_task [] x h = (tt, tt)
  marks_then_task (None ∷ xs) x h = absurd h
  marks_then_task (Some y ∷ xs) x h = marks_then_task xs x h

  pub marks_then_mark : (xs : List (Option T)) → MarksLast xs → MarksLast (xs ++ None ∷ [])
  marks_then_mark [] h = refl
  marks_then_mark (None ∷ xs) h = tasks-append xs (None ∷ []) ∙ append-nil (tasks_in xs) ∙ h
  marks_then_mark (Some y ∷ xs) h = marks_then_mark xs h
