-- Prefixes that are read one after the other.
use Rattle.std.proofs.Common.{◌≡◌, ◌<◌, ◌+◌, ◌*◌, ◌/◌, ◌%◌, ℕ, List, [], ◌∷◌, ◌++◌, length, Some, decimal, flat_map, append_assoc, ap, subst, sym, ◌∙◌, arith}
use Rattle.std.specs.List.{All}
use Rattle.std.proofs.lemmas.Fmt.{decimal_digit, decimal_step}
use Rattle.std.proofs.lemmas.Grind.{flat_map-append}
use Rattle.std.proofs.lemmas.List.{append-nil}
use Rattle.std.proofs.lemmas.List.Elements.{All-push}
use Rattle.aud_witness.specs.declared.decision.Decision.{Decision}
use Rattle.aud_text.specs.Orders.{order_text, decision_text}
use Rattle.aud_text.proofs.OrderText.{join-more}
use Rattle.aud_cert.specs.LineText.{only_of}
use Rattle.aud_cert.specs.Written.{Low}
use Rattle.aud_event.specs.Limits.{most_transactions}

-- a digit by itself
pub digit-alone : (text rest : List ℕ) (n : ℕ) → n < 10 → text ≡ (48 + n) ∷ rest → text ≡ decimal n ++ rest
digit-alone text rest n low is = is ∙ ap (λ ds. ds ++ rest) (sym (decimal_digit n low))

-- a digit after others
pub digit-more : (text rest more : List ℕ) (n d : ℕ) → 0 < n → n < most_transactions → d < 10 → text ≡ decimal n ++ rest → rest ≡ (48 + d) ∷ more → text ≡ decimal (n * 10 + d) ++ more
digit-more text rest more n d some low digit is next =
    let front : (n * 10 + d) / 10 ≡ n = omega arith in
    let last : (n * 10 + d) % 10 ≡ d = omega arith in
    let step : decimal (n * 10 + d) ≡ decimal n ++ (48 + d) ∷ [] = decimal_step (n * 10 + d) (omega arith) (omega arith) ∙ (λ i. decimal (front i) ++ (48 + last i) ∷ []) in
    is ∙ ap (λ t. decimal n ++ t) next ∙ sym (append_assoc (decimal n) ((48 + d) ∷ []) more) ∙ ap (λ t. t ++ more) (sym step)

-- an order of one
pub only-is : (ds : List Decision) (d : Decision) → only_of ds ≡ Some d → ds ≡ d ∷ []
only-is [] d is = absurd (cc)
only-is (e ∷ []) d is = let same : e ≡ d = cc in ap (λ x. x ∷ []) same
only-is (e ∷ f ∷ ds) d is = absurd (cc)

-- a decision after others
order-grows : (ds : List Decision) (d : Decision) → 0 < length ds → order_text (ds ++ d ∷ []) ≡ order_text ds ++ 32 ∷ decision_text d
order-grows [] d some = absurd (omega arith)
order-grows (c ∷ ds) d some =
    sym (join-more c (ds ++ d ∷ []))
    ∙ ap (λ t. decision_text c ++ t) (flat_map-append (λ e. 32 ∷ decision_text e) ds (d ∷ []) ∙ ap (λ t. flat_map (λ e. 32 ∷ decision_text e) ds ++ t) (append-nil (32 ∷ decision_text d)))
    ∙ sym (append_assoc (decision_text c) (flat_map (λ e. 32 ∷ decision_text e) ds) (32 ∷ decision_text d))
    ∙ ap (λ t. t ++ 32 ∷ decision_text d) (join-more c ds)

pub order-more : (text rest more : List ℕ) (ds new : List Decision) (d : Decision) → 0 < length ds → new ≡ ds ++ d ∷ [] → text ≡ order_text ds ++ rest → rest ≡ 32 ∷ decision_text d ++ more →
    text ≡ order_text new ++ more
order-more text rest more ds new d some grown is next =
    is ∙ ap (λ t. order_text ds ++ t) next ∙ sym (append_assoc (order_text ds) (32 ∷ decision_text d) more)
    ∙ ap (λ t. t ++ more) (sym (order-grows ds d some) ∙ ap order_text (sym grown))

pub low-more : (ds new : List Decision) (d : Decision) → new ≡ ds ++ d ∷ [] → All Low ds → Low d → All Low new
low-more ds new d grown low small = subst (All Low) (sym grown) (All-push Low ds d low small)
