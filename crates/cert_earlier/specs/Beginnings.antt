-- Prefixes, kept by what they begin with.
use Rattle.std.specs.Prelude.{◌≡◌, ◌⊎◌, ◌↔◌, ℕ, Bool, List, [], ◌∷◌, ◌++◌, map, flat_map, Option, None, Some, Vec, if◌then◌else◌, slice_get}
use Rattle.std.specs.Cmp.Lexicographic.{slice_cmp}
use Rattle.std.specs.HashMap.{HashMap, keys, get}
use Rattle.std.specs.List.{Contains}
use Rattle.std.specs.Ordering.{eq_by_cmp}
use Rattle.aud_witness.specs.declared.decision.Decision.{Decision}
use Rattle.aud_witness.specs.DecisionOrder.{decision_cmp}
use Rattle.aud_order.specs.Shapes.{ShapeOf}
use Rattle.cert_earlier.specs.declared.earlier.Noted.{Noted}
use Rattle.cert_earlier.specs.declared.landing.Landing.{Landing}
use Rattle.cert_earlier.specs.Landings.{IsLandingOf}

-- how contracts see the prefixes of earlier lines: of which shape, and which
pub record EarlierOf : Type 0 where
  pub shape : ShapeOf
  pub prefixes : List (List Decision)

-- a table from lists to what was noted after each
abbrev pub Table : Type 0 → Type 0 → Type 0
Table Z S = HashMap (List Decision) (Vec Noted Z) S

abbrev pub all_of : {Z : Type 0} → Option (Vec Noted Z) → List Noted
all_of None = []
all_of (Some ns) = ns.items

-- what was noted after the list
abbrev pub noted : {Z S : Type 0} → Table Z S → List Decision → List Noted
noted table p = all_of (get (eq_by_cmp (slice_cmp decision_cmp)) table p)

abbrev pub decisions_of : List Noted → List Decision
decisions_of ns = map (λ n. n.decision) ns

abbrev pub IsNoted : {Z S : Type 0} → Table Z S → List Decision → Decision → Type 0
IsNoted table p d = Contains (decisions_of (noted table p)) d

-- the list with each of the decisions after it
abbrev pub extended : List Decision → List Decision → List (List Decision)
extended p ds = map (λ d. p ++ d ∷ []) ds

-- the lists of a table, and the empty one, if it is among them
abbrev pub prefixes_of : {Z S : Type 0} → Bool → Table Z S → List (List Decision)
prefixes_of has_empty table = (if has_empty then [] ∷ [] else []) ++ flat_map (λ p. extended p (decisions_of (noted table p))) (keys table)

-- what stands at the number is where the list leads
abbrev pub IsLandedAt : ShapeOf → List Landing → List Decision → ℕ → Type 0
IsLandedAt shape landings p k = (l : Landing) × (slice_get landings k ≡ Some l) × IsLandingOf shape p l

-- each number that was noted after a list is that of where the list leads with the decision after it
abbrev pub AreLanded : {Z S : Type 0} → ShapeOf → List Landing → Table Z S → Type 0
AreLanded shape landings table = (p : List Decision) (n : Noted) (k : ℕ) → Contains (noted table p) n → n.landing ≡ Some k → IsLandedAt shape landings (p ++ n.decision ∷ []) k

-- the decision is among those noted, as that one
abbrev pub IsFoundAmong : List Noted → Decision → Option Noted → Type 0
IsFoundAmong ns d None = Contains (decisions_of ns) d → ⊥
IsFoundAmong ns d (Some n) = Contains ns n × (n.decision ≡ d)

-- the decision is noted after the list, beside what was noted before
abbrev pub IsNotedBeside : {Z S : Type 0} → Table Z S → Table Z S → List Decision → Decision → Type 0
IsNotedBeside old new p d = (q : List Decision) (e : Decision) → IsNoted new q e ↔ (IsNoted old q e ⊎ ((q ≡ p) × (e ≡ d)))

-- nothing but what was noted before is noted, and perhaps the one thing after the list
abbrev pub IsNotedAlone : {Z S : Type 0} → Table Z S → Table Z S → List Decision → Noted → Type 0
IsNotedAlone old new p n = (q : List Decision) (m : Noted) → Contains (noted new q) m → Contains (noted old q) m ⊎ ((q ≡ p) × (m ≡ n))
