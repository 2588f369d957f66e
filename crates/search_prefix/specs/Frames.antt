-- What one frame of a search does.
use Rattle.std.specs.Prelude.{◌≡◌, ℕ, List, [], ◌∷◌, ◌++◌, map, Option, Some, None, ◌⊎◌}
use Rattle.aud_kinds.specs.Objects.{ObjState}
use Rattle.aud_witness.specs.declared.decision.Decision.{Decision}
use Rattle.aud_order.specs.Cursors.{CursorOf, cursor_back}
use Rattle.search_memo.specs.declared.choice.Choice.{Choice}
use Rattle.search_prefix.specs.declared.searching.Arrival.{Arrival}
use Rattle.search_prefix.specs.declared.searching.Arrival.TheVariants.{Known, Fresh}
use Rattle.search_prefix.specs.declared.searching.Frame.{Frame}
use Rattle.search_memo.specs.Memos.{MemoOf, states_reached, Names, IsRefutedAt}
use Rattle.search_memo.specs.Recorders.{HasNote, AreKept}
use Rattle.search_prefix.specs.Tried.{FindsFirstGood, ArePassed}

-- choices that are known to be refuted were passed over from a place on, and the others were tried up to the first that is good
abbrev pub IsSought : {N : Type 0} → (N → List Decision → Type 0) → CursorOf → CursorOf → List Choice → ℕ → Option ℕ → Type 0
IsSought noted old new cs next found = (from : ℕ) × (ArePassed old cs next from × AreKept (HasNote noted) old.shape cs old.path next from × FindsFirstGood old new cs from found)

-- the prefix is known to be refuted, has a note and was taken back; or the states there have the number, where there is one
abbrev pub IsArrived : {N : Type 0} → (N → List Decision → Type 0) → List (List ObjState) → CursorOf → CursorOf → Arrival → Type 0
IsArrived noted all old new Known = HasNote noted old.path × IsRefutedAt old × (new ≡ cursor_back old)
IsArrived noted all old new (Fresh states) = Names all states (states_reached old.shape old.path) × (new ≡ old)

-- the prefix has a note, and is the first one; or the search went back from it to the prefix of the last frame
abbrev pub IsFrameClosed : {N : Type 0} → (N → List Decision → Type 0) → CursorOf → CursorOf → List Frame → List Frame → Frame → Option N → Type 0
IsFrameClosed noted old new frames less here (Some note) = (frames ≡ []) × noted note old.path × (new ≡ old)
IsFrameClosed noted old new frames less here None = (frames ≡ less ++ here ∷ []) × HasNote noted old.path × (new ≡ cursor_back old)

-- the frame without the number of the states
abbrev pub unnumbered : Frame → Frame
unnumbered t = record { next = t.next; states = None; silent = t.silent }

-- all is as it was, or the memo forgot what it may have known and the states of no frame have a number
pub record HasRoomMade {V : Type 0} (old new : MemoOf V) (frames later : List Frame) (here now : Frame) : Type 0 where
  pub shape : new.shape ≡ old.shape
  pub recorder : new.recorder ≡ old.recorder
  pub numbers : ((new.states ≡ old.states) × (later ≡ frames) × (now ≡ here)) ⊎ ((later ≡ map unnumbered frames) × (now ≡ unnumbered here))
