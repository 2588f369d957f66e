use Rattle.aud_object.proofs.Rows as law
use Rattle.aud_object.proofs.laws.each_row_counts.Goals as goal

pub returns-clause-changes : goal.returns-clause-changes
returns-clause-changes c = law.each_other_changes

pub returns-clause-tells : goal.returns-clause-tells
returns-clause-tells c = law.each_observing_tells

pub returns-clause-others : goal.returns-clause-others
returns-clause-others c = law.other_kinds_stay
