use Rattle.std.proofs.Common.{◌≡◌, true, false, Err, Some, option_map, ap, sym, ◌∙◌}
use Rattle.serde_json.specs.Find.{as_object}
use Rattle.serde_json.specs.View.{view, members_view}
use Rattle.aud_json.specs.Keys.{has_only}
use Rattle.aud_json.specs.Judged.{checked}
use Rattle.aud_json.proofs.Quick.{judged_built, judged_unbuilt}
use Rattle.aud_json.proofs.fact.judge.Goals as goal

pub returns-in-None : goal.returns-in-None
returns-in-None g c =
    let ms = members_view c.in-Some.members.now.entries in
    let o : as_object (view c.args.value.now) ≡ Some ms = sym c.as_object.ensures ∙ ap (option_map (λ m. members_view m.now.entries)) c.in-Some.is in
    ap Err c.fault_of.ensures ∙ sym (judged_unbuilt c.args.plan.now c.format-format.result (view c.args.value.now) ms c.shape_in-shape.result c.format-format.ensures.format o c.shape_in-shape.ensures (sym c.fact_in.ensures ∙ c.in-None.is))

pub returns-then-not-has_only_allowed : goal.returns-then-not-has_only_allowed
returns-then-not-has_only_allowed g c =
    let ms = members_view c.in-Some.members.now.entries in
    let o : as_object (view c.args.value.now) ≡ Some ms = sym c.as_object.ensures ∙ ap (option_map (λ m. members_view m.now.entries)) c.in-Some.is in
    let only = ap (λ ks. has_only ks ms) (sym c.allowed_keys.ensures) ∙ (sym c.has_only_allowed.ensures ∙ c.if-not-has_only_allowed.true) in
    sym (judged_built c.args.plan.now c.format-format.result (view c.args.value.now) ms c.shape_in-shape.result c.in-Some-fact_in.fact false c.format-format.ensures.format o c.shape_in-shape.ensures (sym c.fact_in.ensures ∙ c.in-Some-fact_in.is) only)

pub returns-in-Ok : goal.returns-in-Ok
returns-in-Ok g c =
    let ms = members_view c.in-Some.members.now.entries in
    let o : as_object (view c.args.value.now) ≡ Some ms = sym c.as_object.ensures ∙ ap (option_map (λ m. members_view m.now.entries)) c.in-Some.is in
    let only = ap (λ ks. has_only ks ms) (sym c.allowed_keys.ensures) ∙ (sym c.has_only_allowed.ensures ∙ c.if-not-has_only_allowed.false) in
    sym (judged_built c.args.plan.now c.format-format.result (view c.args.value.now) ms c.shape_in-shape.result c.in-Some-fact_in.fact true c.format-format.ensures.format o c.shape_in-shape.ensures (sym c.fact_in.ensures ∙ c.in-Some-fact_in.is) only
    ∙ ap (checked c.in-Some-fact_in.fact) c.in-Ok.ensures)

pub returns-in-Err : goal.returns-in-Err
returns-in-Err g c =
    let ms = members_view c.in-Some.members.now.entries in
    let o : as_object (view c.args.value.now) ≡ Some ms = sym c.as_object.ensures ∙ ap (option_map (λ m. members_view m.now.entries)) c.in-Some.is in
    let only = ap (λ ks. has_only ks ms) (sym c.allowed_keys.ensures) ∙ (sym c.has_only_allowed.ensures ∙ c.if-not-has_only_allowed.false) in
    sym (judged_built c.args.plan.now c.format-format.result (view c.args.value.now) ms c.shape_in-shape.result c.in-Some-fact_in.fact true c.format-format.ensures.format o c.shape_in-shape.ensures (sym c.fact_in.ensures ∙ c.in-Some-fact_in.is) only
    ∙ ap (checked c.in-Some-fact_in.fact) c.in-Err.ensures)
