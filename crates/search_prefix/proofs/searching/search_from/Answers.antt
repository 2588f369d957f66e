use Rattle.std.proofs.Common.{sym, ◌∙◌}
use Rattle.search_prefix.proofs.searching.search_from.Goals as goal

pub search_on-requires-clause-memo : goal.search_on-requires-clause-memo
search_on-requires-clause-memo g c = c.requires.memo ∙ sym c.requires.shape
