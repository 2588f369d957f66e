-- Who may have left in a cell what a transaction first needs of it.
use Rattle.std.specs.Prelude.{◌≡◌, ℕ, ℤ, false, true, List, Option, Some, slice_get}
use Rattle.aud_event.specs.Meanings.{Declared}
use Rattle.aud_kinds.specs.Objects.{opening_of}
use Rattle.aud_history.specs.Histories.{is_in, is_before}
use Rattle.aud_history.specs.Table.{RowOf, row_of, table_of}
use Rattle.aud_witness.specs.declared.decision.Fate.TheVariants.{A}
use Rattle.aud_witness.specs.Orders.{is_allowed}
use Rattle.search_model.specs.declared.cell.Cell.{Cell}
use Rattle.judge_clauses.specs.declared.clause.Read.{Read}
use Rattle.judge_clauses.specs.declared.clause.Literal.{Literal}
use Rattle.judge_clauses.specs.declared.clause.Atom.TheVariants.{Source}
use Rattle.search_model.specs.declared.cell.Need.{Need}
use Rattle.search_model.specs.Cells.{is_cell, content, needs_of, changes}
use Rattle.judge_clauses.specs.Clauses.{says, KnownFactsOf, Unless}

-- the object has the cell, which holds this where it opens
abbrev pub OpensWith : KnownFactsOf → ℕ → Cell → Option ℤ → Type 0
OpensWith f x c o = (d : Declared) × ((slice_get f.plan.objects x ≡ Some d) × ((is_cell c (opening_of d) ≡ true) × (content c (opening_of d) ≡ o)))

-- a transaction that commits in any case changes the cell and ended before the reader began; its first event has the stamp
pub record IsHiding (f : KnownFactsOf) (read : Read) (stamp : ℕ) : Type 0 where
  pub by : ℕ
  pub there : is_in f.history by ≡ true
  pub changing : changes f.history read.cell read.object by ≡ true
  pub committed : is_allowed f.history by A ≡ false
  pub before : is_before f.history by read.reader ≡ true
  pub first : (row_of f.history by).first ≡ stamp

-- the reader is in the history, and the cell is there, of which it first needs this
pub record IsRead (f : KnownFactsOf) (read : Read) (need : Need) : Type 0 where
  pub there : is_in f.history read.reader ≡ true
  pub needed : needs_of f.history read.cell read.object read.reader ≡ Some need
  pub content : Option ℤ
  pub opens : OpensWith f read.object read.cell content

-- the row of the place is not the source where the clause does not hold
abbrev pub IsOutAt : KnownFactsOf → List Literal → Read → ℕ → Type 0
IsOutAt f c read k = (row : RowOf) → slice_get (table_of f.history) k ≡ Some row → Unless f c (λ p. says f.history p (Source read row.tx) ≡ false)

-- no row is
abbrev pub AreOut : KnownFactsOf → List Literal → Read → Type 0
AreOut f c read = (k : ℕ) → IsOutAt f c read k
