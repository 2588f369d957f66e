use Rattle.std.specs.Prelude.{Option, ℕ, IfSome}
use Rattle.std.proofs.Common.{sym, subst}
use Rattle.std.proofs.lemmas.Option.{IfSome_then}
use Rattle.search_visited.specs.Visited.{with_place}
use Rattle.search_memo.specs.Known.{IsMarkedBy}
use Rattle.search_memo.proofs.SharedLemmas.{only-word, marked-further}
use Rattle.search_memo.proofs.shared.word_of.Goals as goal

pub returns-in-Some : goal.returns-in-Some
returns-in-Some g c =
    let words = c.words.result.now in
    let marks = c.args.placed.now in
    subst (λ (f : Option ℕ). IfSome c.with_further.result (λ word. IsMarkedBy word (with_place marks f))) (sym c.in-Some.is)
    (IfSome_then c.with_further.result c.with_further.ensures
    (λ own more. marked-further _ own c.in-Some.place words marks (only-word words _ c.in-len1.len_at_least c.in-len1.len_below) c.words.ensures (rw c.in-Some.is at c.requires) more))
