use Rattle.std.proofs.Common.{[], ap, ◌∙◌, sym, subst}
use mathlib.Core.Bool.{true≢false}
use Rattle.aud_lattice.specs.declared.trie.Trie.{out-Trie}
use Rattle.aud_lattice.specs.declared.trie.Trie.TheVariants.{outs-Fork, outs-Member}
use Rattle.aud_lattice.specs.Walks.{ends, IsLayer}
use Rattle.aud_lattice.proofs.Tries.{good_here}
use Rattle.aud_lattice.proofs.Leads.{reported, full_live, empty_leads}
use Rattle.aud_lattice.proofs.trie.Trie.is_bare.Goals as goal

pub returns-in-Member : goal.returns-in-Member
returns-in-Member g c = λ none. true≢false (sym (ap ends (ap (out-Trie g.row.D.Denot g.row.A.Denot) c.in-Member.is ∙ outs-Member)) ∙ none [])

pub returns-in-Fork : goal.returns-in-Fork
returns-in-Fork g c =
    let o = g.met.D.Ord.total in
    let ex = g.met.D.Key.exact in
    let t = c.args.self.now in
    let at = ap (out-Trie g.row.D.Denot g.row.A.Denot) c.in-Fork.is ∙ outs-Fork c.in-Fork.next in
    let s = subst (IsLayer g.D.Ord.cmp) at (good_here g.D.Ord.cmp t c.requires) in
    reported c.is_empty.result _ _
    (λ e. empty_leads g.D.Ord.cmp o ex t c.in-Fork.next at s (c.is_empty.ensures.0 e))
    (λ e. full_live g.D.Ord.cmp o ex t c.in-Fork.next at s c.requires (λ none. true≢false (sym (c.is_empty.ensures.1 none) ∙ e)))
