-- Completions with an order of the transactions, and which of them show a history opaque.
use Rattle.std.specs.Prelude.{◌≡◌, ℕ, Bool, true, false, not, ◌&&◌, ◌||◌, if◌then◌else◌, nat_eq, List, [], ◌∷◌, ◌++◌}
use Rattle.std.specs.List.{list_any, list_all}
use Rattle.aud_event.specs.declared.fact.Event.{Event}
use Rattle.aud_event.specs.declared.fact.Event.TheVariants.{Inv, TryC, TryA, Commit, Abort}
use Rattle.aud_event.specs.Meanings.{Declared}
use Rattle.aud_witness.specs.declared.decision.Fate.{Fate}
use Rattle.aud_witness.specs.declared.decision.Fate.TheVariants.{C, A}
use Rattle.aud_witness.specs.declared.decision.Decision.{Decision}
use Rattle.aud_history.specs.Histories.{History, events_of, is_in, is_committed, is_aborted, is_live, is_commit_pending, is_before}
use Rattle.aud_kinds.specs.Objects.{IsLegal}

-- the fates that a completion may give: a committed transaction C, an aborted one A,
-- a commit-pending one either, every other live one A
abbrev pub is_allowed : History → ℕ → Fate → Bool
is_allowed h t C = is_committed h t || is_commit_pending h t
is_allowed h t A = is_aborted h t || is_live h t

-- the events that end a live transaction
abbrev pub live_ending : List Event → Fate → List Event
live_ending [] fate = TryC ∷ Abort ∷ []
live_ending (Inv _ _ ∷ []) fate = Abort ∷ []
live_ending (TryA ∷ []) fate = Abort ∷ []
live_ending (TryC ∷ []) C = Commit ∷ []
live_ending (TryC ∷ []) A = Abort ∷ []
live_ending (_ ∷ es) fate = live_ending es fate

-- the block of a transaction: its events, and where it is live the events that end it
abbrev pub block : History → Decision → List Event
block h d = events_of d.tx h ++ (if is_live h d.tx then live_ending (events_of d.tx h) d.fate else [])

abbrev pub is_kept : Decision → Bool
is_kept d = elim d.fate [ C ↦ true | A ↦ false ]

abbrev pub is_named : List Decision → ℕ → Bool
is_named p t = list_any (λ d. nat_eq d.tx t) p

abbrev pub are_named_once : List Decision → Bool
are_named_once [] = true
are_named_once (d ∷ p) = not (is_named p d.tx) && are_named_once p

-- T stands before U
abbrev pub stands_before : List Decision → ℕ → ℕ → Bool
stands_before [] t u = false
stands_before (d ∷ p) t u = (nat_eq d.tx t && is_named p u) || stands_before p t u

-- the blocks with fate C, in their order
abbrev pub kept : History → List Decision → List Event
kept h [] = []
kept h (d ∷ p) = if is_kept d then block h d ++ kept h p else kept h p

-- visible(p, T): the events of the transactions that stand before T with fate C, then T's own
abbrev pub visible : History → List Decision → ℕ → List Event
visible h [] t = []
visible h (d ∷ p) t =
    if nat_eq d.tx t then block h d
    else (if is_kept d then block h d ++ visible h p t else visible h p t)

-- p names each transaction of H once, names nothing else, and each fate is allowed
pub record IsFull (h : History) (p : List Decision) : Type 0 where
  pub once : are_named_once p ≡ true
  pub same : (t : ℕ) → is_named p t ≡ is_in h t
  pub allowed : list_all (λ d. is_allowed h d.tx d.fate) p ≡ true

-- p shows H opaque: it is full, it keeps the real-time order, and what each transaction sees is legal
pub record Shows (objects : List Declared) (h : History) (p : List Decision) : Type 0 where
  pub full : IsFull h p
  pub real_time : (t u : ℕ) → is_before h t u ≡ true → stands_before p t u ≡ true
  pub legal : (t : ℕ) → is_named p t ≡ true → IsLegal objects (visible h p t)

-- some order shows H
abbrev pub Opaque : List Declared → History → Type 0
Opaque objects h = (p : List Decision) × Shows objects h p

-- no order that begins with p shows H
abbrev pub Refuted : List Declared → History → List Decision → Type 0
Refuted objects h p = (rest : List Decision) → Shows objects h (p ++ rest) → ⊥

-- after p, d is a choice, all transactions before it in H are placed, and it is legal there
pub record IsGoodNext (objects : List Declared) (h : History) (p : List Decision) (d : Decision) : Type 0 where
  pub in_history : is_in h d.tx ≡ true
  pub new : is_named p d.tx ≡ false
  pub allowed : is_allowed h d.tx d.fate ≡ true
  pub enabled : (t : ℕ) → is_before h t d.tx ≡ true → is_named p t ≡ true
  pub legal : IsLegal objects (kept h p ++ block h d)

-- each decision in turn is good after those before it
abbrev pub IsGood : List Declared → History → List Decision → Type 0
IsGood objects h p =
    (before : List Decision) (d : Decision) (rest : List Decision) → p ≡ before ++ d ∷ rest → IsGoodNext objects h before d
