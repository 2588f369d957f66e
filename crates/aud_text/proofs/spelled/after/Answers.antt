use Rattle.std.proofs.Common.{◌≡◌, ℕ, List, ◌++◌, Option, Some, None, ap, ◌∙◌, sym}
use Rattle.std.specs.Prelude.{MatchOption, ◌≢◌}
use denote.Ref.{Bor}
use Rattle.std.proofs.lemmas.Slice.Eq.{strip_prefix_is}
use Rattle.std.proofs.lemmas.Bool.Decides.{Decides-eqb}
use Rattle.aud_text.proofs.spelled.after.Goals as goal

found : (s p q : List ℕ) (r : Option (Bor (List ℕ))) → q ≡ p → MatchOption r ((rest : List ℕ) → s ≢ q ++ rest) (λ x. s ≡ q ++ x.now) → MatchOption r ((rest : List ℕ) → s ≢ p ++ rest) (λ x. s ≡ p ++ x.now)
found s p q None same m = λ rest e. m rest (e ∙ ap (λ l. l ++ rest) (sym same))
found s p q (Some rest) same m = m ∙ ap (λ l. l ++ rest.now) same

pub returns : goal.returns
returns c = found c.args.line.now c.args.text.now c.as_bytes.result.now c.strip_prefix.result c.as_bytes.ensures.value (strip_prefix_is Decides-eqb _ _ _ c.strip_prefix.ensures.cases)
