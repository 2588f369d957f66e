use Rattle.aud_object.proofs.Places.{back_at-either, after_at-set, after_at-past, answer_at-is, answer_at-past}
use Rattle.aud_object.proofs.store.apply_at.Goals as goal

pub returns-in_ok-apply_with_undo-in-Some-clause-answer : goal.returns-in_ok-apply_with_undo-in-Some-clause-answer
returns-in_ok-apply_with_undo-in-Some-clause-answer g c = answer_at-is _ _ _ _ _ c.in-Some.ensures.item.3.0 c.in-Some.ensures.value c.in_ok-apply_with_undo-in-Some.ensures.answer

pub returns-in_ok-apply_with_undo-in-Some-clause-after : goal.returns-in_ok-apply_with_undo-in-Some-clause-after
returns-in_ok-apply_with_undo-in-Some-clause-after g c = after_at-set _ _ _ _ _ c.in-Some.ensures.item.3.0 c.in-Some.ensures.value c.in_ok-apply_with_undo-in-Some.ensures.after

pub returns-in_ok-apply_with_undo-in-Some-clause-back : goal.returns-in_ok-apply_with_undo-in-Some-clause-back
returns-in_ok-apply_with_undo-in-Some-clause-back g c = back_at-either _ _ _ _ _ c.in-Some.ensures.item.3.0 c.in-Some.ensures.value c.in_ok-apply_with_undo-in-Some.ensures.back

pub returns-in-None-clause-answer : goal.returns-in-None-clause-answer
returns-in-None-clause-answer g c = answer_at-past _ _ _ c.in-None.ensures.item.3

pub returns-in-None-clause-after : goal.returns-in-None-clause-after
returns-in-None-clause-after g c = after_at-past _ _ _ c.in-None.ensures.item.3
