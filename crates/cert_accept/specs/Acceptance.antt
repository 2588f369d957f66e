-- When a certificate is accepted.
use Rattle.std.specs.Prelude.{◌≡◌, ◌↔◌, Bool, IsTrue, List, [], ◌∷◌, ◌++◌, map}
use Rattle.aud_event.specs.Meanings.{Declared}
use Rattle.aud_history.specs.Histories.{History}
use Rattle.aud_witness.specs.declared.decision.Decision.{Decision}
use Rattle.aud_witness.specs.Orders.{IsGood}
use Rattle.cert_earlier.specs.Resting.{HasEarlierKids, HasEarlierSilent, HasSame}
use Rattle.cert_accept.specs.declared.cert.CertLine.{CertLine}
use Rattle.cert_accept.specs.declared.cert.CertLine.TheVariants.{Kids, Silent, Same}

-- the prefix of a line
abbrev pub prefix_in : {X : Type 0} → CertLine X → List Decision
prefix_in (Kids p) = p
prefix_in (Silent p d) = p
prefix_in (Same p q) = p

-- the same line, with its prefixes in memory of another kind
abbrev pub elsewhere : {X Y : Type 0} → CertLine X → CertLine Y
elsewhere (Kids p) = Kids p
elsewhere (Silent p d) = Silent p d
elsewhere (Same p q) = Same p q

-- what the line says of the prefixes of the earlier lines holds
abbrev pub Rests : {X : Type 0} → List Declared → History → List (List Decision) → CertLine X → Type 0
Rests objects h earlier (Kids p) = HasEarlierKids objects h earlier p
Rests objects h earlier (Silent p d) = HasEarlierSilent objects h earlier p d
Rests objects h earlier (Same p q) = HasSame objects h earlier p q

-- a line is accepted after those of some prefixes: its own prefix is good, and what it says holds
pub record IsAcceptedLine {X : Type 0} (objects : List Declared) (h : History) (earlier : List (List Decision)) (line : CertLine X) : Type 0 where
  pub good : IsGood objects h (prefix_in line)
  pub rests : Rests objects h earlier line

-- each line in turn is accepted after those before it
abbrev pub AreAccepted : {X : Type 0} → List Declared → History → List (List Decision) → List (CertLine X) → Type 0
AreAccepted objects h earlier [] = Unit {0}
AreAccepted objects h earlier (line ∷ lines) = IsAcceptedLine objects h earlier line × AreAccepted objects h (earlier ++ prefix_in line ∷ []) lines

-- there is a last prefix, and it is empty
abbrev pub EndsEmpty : List (List Decision) → Type 0
EndsEmpty prefixes = (before : List (List Decision)) × (prefixes ≡ before ++ [] ∷ [])

-- a certificate is accepted: it has at least one line, every line is accepted in turn, and the last line's prefix is empty
pub record IsAccepted {X : Type 0} (objects : List Declared) (h : History) (lines : List (CertLine X)) : Type 0 where
  pub each : AreAccepted objects h [] lines
  pub last : EndsEmpty (map prefix_in lines)

-- what a checker says of a line, and of lines: yes exactly where they are accepted
abbrev pub JudgesLine : {X : Type 0} → List Declared → History → List (List Decision) → CertLine X → Bool → Type 0
JudgesLine objects h earlier line told = IsTrue told ↔ IsAcceptedLine objects h earlier line

abbrev pub JudgesLines : {X : Type 0} → List Declared → History → List (CertLine X) → Bool → Type 0
JudgesLines objects h lines told = IsTrue told ↔ IsAccepted objects h lines
