use Rattle.std.specs.Prelude.{◌≡◌, ◌≤◌, nat_lt, false, slice_index_or}
use Rattle.std.proofs.Common.{sym, ◌∙◌, ap, arith}
use Rattle.std.proofs.lemmas.Bool.Decides.{nat_tests}
use Rattle.base_bits.specs.Marked.{is_marked}
use Rattle.base_bits.proofs.Marking.{marks_of-at, marks_of-past}
use Rattle.base_bits.proofs.marks.Marks.has.Goals as goal

pub returns-then-place-self : goal.returns-then-place-self
returns-then-place-self g c =
    let i = c.self.inside in
    c.is_set.ensures ∙ ap (λ l. is_marked l c.args.place) c.deref.ensures.value ∙ sym (marks_of-at i.words.items i.count c.args.place c.if-place-self.true) ∙ ap (λ l. slice_index_or l c.args.place false) c.self.view_is

pub returns-else-place-self : goal.returns-else-place-self
returns-else-place-self g c =
    let i = c.self.inside in
    let past : i.count ≤ c.args.place = c.if-place-self.false in
    let no : nat_lt c.args.place i.count ≡ false = grind (arith, nat_tests) in
    no ∙ sym (marks_of-past i.words.items i.count c.args.place past) ∙ ap (λ l. slice_index_or l c.args.place false) c.self.view_is
