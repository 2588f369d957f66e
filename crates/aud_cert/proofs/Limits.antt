-- The lines of an accepted certificate are within the limits.
use Rattle.std.specs.Prelude.{◌≡◌, ℕ, ◌+◌, ◌*◌, ◌<◌, ◌≤◌, false, true, not, nat_eq, List, [], ◌∷◌, ◌++◌, length, decimal, flat_map, codes, refl}
use Rattle.std.specs.List.{All, AllByRecursion, Contains, IsDistinct, list_any}
use Rattle.std.proofs.Common.{sym, ◌∙◌, subst, inl, inr, arith, append_assoc, length-append}
use Rattle.std.proofs.lemmas.Fmt.{length-decimal-le}
use Rattle.std.proofs.lemmas.List.Elements.{All-head, All-tail, All-cons, All-nil, Contains-push_cases}
use Rattle.std.proofs.lemmas.Map.Steps.{length-le_from_distinct_below}
use Rattle.aud_event.specs.Meanings.{PlanOf}
use Rattle.aud_event.specs.Rows.{below_most}
use Rattle.base_values.proofs.Bools.{or_true, or_false, and_true, not_true, nat_eq-is}
use Rattle.aud_history.specs.Histories.{History, is_in}
use Rattle.aud_history.specs.FirstFault.{FitsPlan, IsWithinLimits}
use Rattle.aud_history.specs.Table.{transactions}
use Rattle.aud_history.proofs.Tables.{any-transactions, are_different, different-transactions}
use Rattle.aud_witness.specs.declared.decision.Decision.{Decision}
use Rattle.aud_witness.specs.Orders.{IsGood}
use Rattle.aud_order.proofs.Lengths.{length-good}
use Rattle.aud_text.specs.Orders.{order_text, decision_text, fate_letter}
use Rattle.aud_text.proofs.OrderText.{join-more}
use Rattle.cert_accept.specs.declared.cert.CertLine.{CertLine}
use Rattle.cert_accept.specs.declared.cert.CertLine.TheVariants.{Kids, Silent, Same}
use Rattle.cert_accept.specs.Acceptance.{prefix_in, IsAcceptedLine, AreAccepted}
use Rattle.aud_cert.specs.Written.{prefix_text, decided_text, IsShort, IsWithin, Low}
use Rattle.aud_cert.specs.Laws.{AcceptedReadsBack}
use Rattle.aud_cert.specs.Limits.{longest_cert_line}
use Rattle.aud_cert.proofs.Back.{certificates-read-back}
use Rattle.aud_event.specs.Limits.{most_transactions}

-- # How long texts are

decision-length : (d : Decision) → Low d → length (decision_text d) ≤ 5
decision-length d low =
    let digits = length-decimal-le 4 d.tx (omega arith) (omega arith) (omega arith) in
    omega (arith, digits, length-append (decimal d.tx) (fate_letter d.fate ∷ []))

more-length : (ds : List Decision) → All Low ds → length (flat_map (λ e. 32 ∷ decision_text e) ds) ≤ 6 * length ds
more-length [] low = omega arith
more-length (d ∷ ds) low =
    let here = decision-length d (All-head Low d ds low) in
    let rest = more-length ds (All-tail Low d ds low) in
    omega (arith, here, rest, length-append (decision_text d) (flat_map (λ e. 32 ∷ decision_text e) ds))

order-length : (p : List Decision) → All Low p → length (order_text p) ≤ 6 * length p + 4
order-length [] low = omega arith
order-length (d ∷ ds) low =
    let more = flat_map (λ e. 32 ∷ decision_text e) ds in
    let here = decision-length d (All-head Low d ds low) in
    let rest = more-length ds (All-tail Low d ds low) in
    subst (λ t. length t ≤ 6 * length (d ∷ ds) + 4) (join-more d ds) (omega (arith, here, rest, length-append (decision_text d) more))

-- each id is in range, and the text is no longer than 4,096 decisions need
record IsSmall (p : List Decision) : Type 0 where
  ids : All Low p
  text : length (order_text p) ≤ 24580

small-from_few : (p : List Decision) → All Low p → length p ≤ most_transactions → IsSmall p
small-from_few p low few = let long = order-length p low in record { ids = low; text = omega (arith, few, long) }

short-from_small : (p : List Decision) → IsSmall p → IsShort p
short-from_small p small = let text = small.text in record { ids = small.ids; text = omega (arith, text) }

-- an order of one decision
small-one : (d : Decision) → Low d → IsSmall (d ∷ [])
small-one d low = small-from_few (d ∷ []) (All-cons Low d [] low (All-nil Low)) (omega arith)

prefix-length : (p : List Decision) → IsSmall p → length (prefix_text p) ≤ 24592
prefix-length p small = let text = small.text in omega (arith, text, length-append (order_text p) (codes "\"}"))

-- # Lines of small prefixes

abbrev HasSmall : {X : Type 0} → CertLine X → Type 0
HasSmall (Kids p) = IsSmall p
HasSmall (Silent p d) = IsSmall p × Low d
HasSmall (Same p q) = IsSmall p × IsSmall q

orders-small : (p : List Decision) (d : Decision) → IsSmall p → Low d → IsShort p × IsShort (d ∷ [])
orders-small p d small low = (short-from_small p small, short-from_small (d ∷ []) (small-one d low))

-- a line of a short word with a decision
decided-length : (word : List ℕ) (p : List Decision) (d : Decision) → length word ≤ 6 → IsSmall p → Low d → length (decided_text word p d) ≤ longest_cert_line
decided-length word p d small-word small low =
    let here = decision-length d low in
    let end = prefix-length p small in
    omega (arith, small-word, here, end, length-append word (codes "\",\"d\":\"" ++ (decision_text d ++ prefix_text p)), length-append (decision_text d) (prefix_text p))

within-small : {X : Type 0} (line : CertLine X) → HasSmall line → IsWithin line
within-small (Kids p) small =
    let end = prefix-length p small in
    record { orders = short-from_small p small; text = omega (arith, end) }
within-small (Silent p d) (small, low) = record { orders = orders-small p d small low; text = decided-length (codes "silent") p d (omega arith) small low }
within-small (Same p q) (small, other) =
    let long = other.text in
    let end = prefix-length p small in
    record {
      orders = (short-from_small p small, short-from_small q other);
      text = omega (arith, long, end, length-append (order_text q) (codes "\",\"by\":\"same" ++ prefix_text p));
    }

-- # How many transactions there are

-- those of a history within the limits are in range
low-in : (plan : PlanOf) (h : History) (t : ℕ) → All (FitsPlan plan) h → is_in h t ≡ true → t < most_transactions
low-in plan [] t fits there = absurd (cc)
low-in plan (e ∷ h) t fits there =
    elim (or_true (nat_eq e.0 t) (is_in h t) there) [
      | inl same ↦ subst (λ n. n < most_transactions) (nat_eq-is e.0 t same) (below_most plan.format e.0 (All-head (FitsPlan plan) e h fits).0)
      | inr later ↦ low-in plan h t (All-tail (FitsPlan plan) e h fits) later
    ]

apart : (t : ℕ) (ts : List ℕ) → list_any (nat_eq t) ts ≡ false → AllByRecursion (λ u. nat_eq t u ≡ false) ts
apart t [] none = tt
apart t (u ∷ ts) none = let both = or_false (nat_eq t u) (list_any (nat_eq t) ts) none in (both.0, apart t ts both.1)

distinct : (ts : List ℕ) → are_different ts ≡ true → IsDistinct nat_eq ts
unfolding IsDistinct
distinct [] differ = tt
distinct (t ∷ ts) differ =
    let both = and_true (not (list_any (nat_eq t) ts)) (are_different ts) differ in
    (apart t ts (not_true (list_any (nat_eq t) ts) both.0), distinct ts both.1)

few-transactions : (plan : PlanOf) (h : History) → All (FitsPlan plan) h → length (transactions h) ≤ most_transactions
few-transactions plan h fits =
    length-le_from_distinct_below (transactions h) most_transactions (distinct (transactions h) (different-transactions h))
    (λ t there. low-in plan h t fits (sym (any-transactions h t) ∙ there))

-- # Accepted lines

module _ (plan : PlanOf) (h : History) (within : IsWithinLimits plan h) where
  low-good : (before rest p : List Decision) → p ≡ before ++ rest → IsGood plan.objects h p → All Low rest
  low-good before [] p is good = All-nil Low
  low-good before (d ∷ rest) p is good =
      All-cons Low d rest (low-in plan h d.tx within.1 (good before d rest is).in_history)
      (low-good (before ++ d ∷ []) rest p (is ∙ sym (append_assoc before (d ∷ []) rest)) good)

  small-good : (p : List Decision) → IsGood plan.objects h p → IsSmall p
  small-good p good =
      let short = length-good plan.objects h p good in
      let few = few-transactions plan h within.1 in
      small-from_few p (low-good [] p p refl good) (omega (arith, short, few))

  -- the prefixes of earlier lines are good, too
  abbrev AreGood : List (List Decision) → Type 0
  AreGood ps = (p : List Decision) → Contains ps p → IsGood plan.objects h p

  small-line : {X : Type 0} (earlier : List (List Decision)) (line : CertLine X) → AreGood earlier →
      IsAcceptedLine plan.objects h earlier line → HasSmall line
  small-line earlier (Kids p) goods accepted = small-good p accepted.good
  small-line earlier (Silent p d) goods accepted = (small-good p accepted.good, low-in plan h d.tx within.1 accepted.rests.good.in_history)
  small-line earlier (Same p q) goods accepted = (small-good p accepted.good, small-good q (goods q accepted.rests.line))

  good-more : (earlier : List (List Decision)) (new : List Decision) → AreGood earlier → IsGood plan.objects h new →
      AreGood (earlier ++ new ∷ [])
  good-more earlier new goods good p there =
      elim (Contains-push_cases earlier new p there) [ inl old ↦ goods p old | inr same ↦ subst (IsGood plan.objects h) same good ]

  lines-within : {X : Type 0} (lines : List (CertLine X)) (earlier : List (List Decision)) → AreGood earlier →
      AreAccepted plan.objects h earlier lines → All IsWithin lines
  lines-within [] earlier goods all = All-nil IsWithin
  lines-within (line ∷ lines) earlier goods (first, more) =
      let good = good-more earlier (prefix_in line) goods first.good in
      let here = within-small line (small-line earlier line goods first) in
      All-cons IsWithin line lines here (lines-within lines (earlier ++ prefix_in line ∷ []) good more)

pub accepted-reads-back : AcceptedReadsBack
accepted-reads-back plan h lines within accepted =
    let none : AreGood plan h within [] = λ p (k, inside, is). absurd (omega (arith, inside)) in
    let all : All IsWithin lines = lines-within plan h within lines [] none accepted.each in
    (all, λ few. certificates-read-back lines all few)
