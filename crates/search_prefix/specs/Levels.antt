-- Where a search stands: what was tried after the prefix of its cursor and after each beginning of it.
use Rattle.std.specs.Prelude.{◌≡◌, ℕ, ◌<◌, ◌≤◌, List, [], ◌∷◌, ◌++◌, length, Some, slice_get, ◌⊎◌}
use Rattle.std.specs.List.{Contains}
use Rattle.aud_event.specs.Meanings.{Declared}
use Rattle.aud_history.specs.Histories.{History}
use Rattle.aud_witness.specs.declared.decision.Decision.{Decision}
use Rattle.aud_witness.specs.Orders.{IsFull, IsGood, Refuted}
use Rattle.search_memo.specs.declared.choice.Choice.{Choice}
use Rattle.search_prefix.specs.Searches.{IsExpandable, AreDifferent}

-- after the prefix the first choices are refuted
abbrev pub AreTried : List Declared → History → List Choice → List Decision → ℕ → Type 0
AreTried objects h cs path count = (k : ℕ) (c : Choice) → k < count → slice_get cs k ≡ Some c → Refuted objects h (path ++ c.decision ∷ [])

-- after the prefix none of the other choices was expanded
abbrev pub AreFresh : List Choice → List (List Decision) → List Decision → ℕ → Type 0
AreFresh cs es path count = (k : ℕ) (c : Choice) → count ≤ k → slice_get cs k ≡ Some c → Contains es (path ++ c.decision ∷ []) → ⊥

-- after each beginning of the prefix from p on, the longest first, the first choices are refuted, once the prefix itself is, and none of the others
-- was expanded
abbrev pub AreBelow : List Declared → History → List Decision → List Choice → List (List Decision) → List ℕ → List Decision → Type 0
AreBelow objects h p cs es [] path = path ≡ p
AreBelow objects h p cs es (g ∷ gs) path =
    (q : List Decision) × ((d : Decision) × ((path ≡ q ++ d ∷ []) × (Refuted objects h path → AreTried objects h cs q g) × AreFresh cs es q g × AreBelow objects h p cs es gs q))

-- a search of the prefixes that begin with p, its cursor at path, where some choices were tried and so many prefixes expanded
pub record IsSearching (objects : List Declared) (h : History) (p : List Decision) (cs : List Choice) (used : ℕ) (path : List Decision) (next : ℕ) (below : List ℕ) : Type 0 where
  pub es : List (List Decision)
  pub count : length es ≡ used
  pub different : AreDifferent es
  pub opens : (e : List Decision) → Contains es e → IsExpandable objects h e
  pub extend : (e : List Decision) → Contains es e → (q : List Decision) × (e ≡ p ++ q)
  pub parents : (e : List Decision) (d : Decision) → Contains es (e ++ d ∷ []) → (e ++ d ∷ [] ≡ p) ⊎ Contains es e
  pub unfull : (e : List Decision) (d : Decision) → Contains es e → IsGood objects h (e ++ d ∷ []) → IsFull h (e ++ d ∷ []) → e ≡ path
  pub here : Contains es path
  pub tried : AreTried objects h cs path next
  pub fresh : AreFresh cs es path next
  pub levels : AreBelow objects h p cs es below path
