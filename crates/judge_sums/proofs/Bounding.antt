-- What is said of sums, row by row.
use Rattle.std.specs.Prelude.{◌≡◌, ℕ, ◌+◌, ◌<◌, ◌≤◌, ℤ, pos, ◌+ℤ◌, Bool, true, false, ◌&&◌, List, length, Option, Some, None, IfSome, slice_get, refl}
use Rattle.std.proofs.Common.{sym, ◌∙◌, ap, subst, cond, arith, take, get_or}
use Rattle.std.proofs.Math.ListN.{length-map}
use Rattle.std.proofs.lemmas.List.{take_all}
use Rattle.std.proofs.lemmas.Option.{same_Some, slice_get_read}
use Rattle.aud_history.specs.Histories.{History}
use Rattle.aud_history.specs.Table.{RowOf, transactions, row_of, table_of}
use Rattle.aud_witness.specs.Orders.{stands_before}
use Rattle.aud_witness.proofs.Bridge.{row-at}
use Rattle.judge_clauses.specs.declared.clause.Atom.{Atom}
use Rattle.judge_clauses.specs.declared.clause.Literal.{Literal}
use Rattle.judge_clauses.specs.declared.question.Question.TheVariants.{DoesCommit, StandsBefore}
use Rattle.judge_clauses.specs.Clauses.{is_kept_in, says, KnownFactsOf, Unless, IsValid}
use Rattle.judge_clauses.specs.Values.{atom_of, AreValues}
use Rattle.judge_clauses.proofs.Validity.{valid-unless}
use Rattle.search_model.specs.declared.quantity.Quantity.{Quantity}
use Rattle.search_model.specs.Quantities.{net, net_of}
use Rattle.judge_sums.specs.Sums.{sum_of, share, total}
use Rattle.judge_sums.specs.Between.{fits}
use Rattle.judge_sums.specs.Laws.{ComesTo}
use Rattle.judge_sums.proofs.Adding.{sum_of-more}

valued-fits : (o : Option Bool) (b : Bool) → ((c : Bool) → o ≡ Some c → b ≡ c) → fits o b ≡ true
valued-fits None b is = refl
valued-fits (Some true) b is = is true refl
valued-fits (Some false) true is = sym (is false refl)
valued-fits (Some false) false is = refl

-- the row at a place is that of the transaction at the place
pub place-row : (h : History) (k : ℕ) (row : RowOf) → k < length (table_of h) → slice_get (table_of h) k ≡ Some row → row ≡ row_of h (get_or (transactions h) k 0)
place-row h k row low at =
    let size : length (table_of h) ≡ length (transactions h) = length-map (transactions h) (row_of h) in
    same_Some row (row_of h (get_or (transactions h) k 0)) (sym at ∙ row-at h (transactions h) k 0 (omega (arith, low, size)))

-- what was read at a place of the table is the row there
pub found-row : (table rows : List RowOf) (k : ℕ) (found row : RowOf) → rows ≡ table → k < length rows → found ≡ get_or rows k found → slice_get table k ≡ Some row → found ≡ row
found-row table rows k found row same low is at = same_Some found row (sym (slice_get_read rows (length rows) k found refl low is) ∙ ap (λ l. slice_get l k) same ∙ at)

-- the table has a row at each place of its transactions
pub row-there : (h : History) (k : ℕ) → k < length (table_of h) → slice_get (table_of h) k ≡ Some (row_of h (get_or (transactions h) k 0))
row-there h k low =
    let size : length (table_of h) ≡ length (transactions h) = length-map (transactions h) (row_of h) in
    row-at h (transactions h) k 0 (omega (arith, low, size))

module _ (f : KnownFactsOf) (c : List Literal) where
  -- what is known of a row at its place
  known-at : (about : ℕ → Atom) (values : List (Option Bool)) (k : ℕ) (row : RowOf) (o : Option Bool) → AreValues f c about values → slice_get (table_of f.history) k ≡ Some row →
      IfSome o (λ b. slice_get values k ≡ Some (Some b)) → (b : Bool) → o ≡ Some b → Unless f c (λ p. says f.history p (about row.tx) ≡ b)
  known-at about values k row None valued at there b is = absurd (cc)
  known-at about values k row (Some d) valued at there b is =
      let same : d ≡ b = same_Some d b is in
      valued k row b at (there ∙ ap (λ e. Some (Some e)) same)

  module _ {E : Type 0} (says : E → ℤ → Type 0) (quantity : Quantity) (r : ℕ) where
    -- what is said of what the first rows come to
    abbrev pub Bounded : E → ℕ → Type 0
    Bounded sum k = Unless f c (λ p. says sum (sum_of (share (net_of f.history quantity) p r) (take k (transactions f.history))))

    pub bounded-more : (k : ℕ) (sum own next : E) (weight : ℤ) (row : RowOf) (kept before : Option Bool) (fates places : List (Option Bool)) → k < length (table_of f.history) → slice_get (table_of f.history) k ≡ Some row →
        weight ≡ net quantity row.block.executions → AreValues f c (atom_of DoesCommit) fates → AreValues f c (atom_of (StandsBefore r)) places → IfSome kept (λ b. slice_get fates k ≡ Some (Some b)) → IfSome before (λ b. slice_get places k ≡ Some (Some b)) →
        ((x y : Bool) → fits kept x ≡ true → fits before y ≡ true → says own (cond (x && y) weight (pos 0))) →
        ((m n : ℤ) → says sum m → says own n → says next (m +ℤ n)) → Bounded sum k → Bounded next (k + 1)
    bounded-more k sum own next weight row kept before fates places low at is told_fates told_places fate place shares adds so_far p shown broken =
        let ts : List ℕ = transactions f.history in
        let size : length (table_of f.history) ≡ length ts = length-map ts (row_of f.history) in
        let inside : k < length ts = omega (arith, low, size) in
        let t : ℕ = get_or ts k 0 in
        let own_row : row ≡ row_of f.history t = place-row f.history k row low at in
        let g : ℕ → ℤ = share (net_of f.history quantity) p r in
        let is_kept_t : fits kept (is_kept_in p row.tx) ≡ true = valued-fits kept (is_kept_in p row.tx) (λ b known. known-at (atom_of DoesCommit) fates k row kept told_fates at fate b known p shown broken) in
        let is_before_t : fits before (stands_before p row.tx r) ≡ true = valued-fits before (stands_before p row.tx r) (λ b known. known-at (atom_of (StandsBefore r)) places k row before told_places at place b known p shown broken) in
        let one : says own (cond (is_kept_in p row.tx && stands_before p row.tx r) weight (pos 0)) = shares (is_kept_in p row.tx) (stands_before p row.tx r) is_kept_t is_before_t in
        let by_weight : says own (cond (is_kept_in p row.tx && stands_before p row.tx r) (net quantity row.block.executions) (pos 0)) =
        subst (λ n. says own (cond (is_kept_in p row.tx && stands_before p row.tx r) n (pos 0))) is one in
        let share_t : says own (g t) =
        subst (λ (z : RowOf). says own (cond (is_kept_in p z.tx && stands_before p z.tx r) (net quantity z.block.executions) (pos 0))) own_row by_weight in
        let more : sum_of g (take (k + 1) ts) ≡ sum_of g (take k ts) +ℤ g t = sum_of-more g ts k inside in
        subst (says next) (sym more) (adds (sum_of g (take k ts)) (g t) (so_far p shown broken) share_t)

    pub bounded-all : (bounds : E) (k : ℕ) → length (table_of f.history) ≤ k → Bounded bounds k → Unless f c (λ p. says bounds (total f.history (net_of f.history quantity) p r))
    bounded-all bounds k all so_far p shown broken =
        let ts : List ℕ = transactions f.history in
        let size : length (table_of f.history) ≡ length ts = length-map ts (row_of f.history) in
        let enough : length ts ≤ k = omega (arith, all, size) in
        subst (λ l. says bounds (sum_of (share (net_of f.history quantity) p r) l)) (take_all k ts enough) (so_far p shown broken)

    -- a sum that does not lie between its bounds
    pub valid-excluded : (bounds : E) (n : ℤ) → Unless f c (λ p. says bounds (total f.history (net_of f.history quantity) p r)) → ComesTo f quantity r n → (says bounds n → ⊥) → IsValid f c
    valid-excluded bounds n between comes out = valid-unless f c (λ p shown broken. out (subst (says bounds) (comes p shown) (between p shown broken)))
