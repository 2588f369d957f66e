-- Which memories may cross threads: all, where the allocator may and may be shared.
use denote.RattleType.{RattleType}
use denote.Ref.{NamedLft}
use denote.Param.Send.{IsSend, IsSync, Frees, sendable}
use Rattle.std.specs.declared.alloc.Allocator as alloc
use Rattle.std.specs.declared.clone.Clone as clone
use Rattle.std.proofs.marker.PhantomData.TheSendSync as mark
use Rattle.std.proofs.option.Option.TheSendSync as option
use Rattle.std.proofs.sync.Arc.TheSendSync as arc
use Rattle.std.proofs.sync.atomic.AtomicU64.TheSendSync as atomic
use Rattle.std.proofs.vec.Vec.TheSendSync as vec
use Rattle.std.specs.contracts.option.Option as Option
use Rattle.boxcar.proofs.slot.OnceSlot.TheSendSync as slot
use Rattle.aud_order.proofs.Crosses.{shape_sync}
use Rattle.aud_object.proofs.store.Store.TheSendSync as store
use Rattle.search_visited.specs.contracts.index.Index as Index
use Rattle.search_visited.specs.contracts.visited_set.VisitedSet as VisitedSet
use Rattle.search_visited.proofs.index.Index.TheSendSync as index
use Rattle.search_visited.proofs.visited_set.VisitedSet.TheSendSync as visited
use Rattle.search_memo.specs.declared.recorder.Recorder as recorder
use Rattle.search_memo.specs.declared.shared.Scene as scene
use Rattle.search_memo.specs.contracts.memo.Seen as Seen
use Rattle.search_memo.specs.contracts.shared.RefutedEntry as RefutedEntry
use Rattle.search_memo.specs.contracts.shared.Part as Part
use Rattle.search_memo.specs.contracts.shared.Shared as Shared
use Rattle.search_memo.specs.contracts.shared.Sharing as Sharing
use Rattle.search_memo.specs.contracts.stored_states.StoredStates as StoredStates
use Rattle.search_memo.specs.contracts.memo.Memo as Memo
use Rattle.std.specs.contracts.vec.Vec as Vec
use denote.Struct.Field as Field
use Rattle.aud_order.specs.contracts.shape.Shape as Shape
use Rattle.search_memo.specs.contracts.stored_states.Finder as Finder
use Rattle.search_memo.specs.contracts.memo.Transition as Transition
use Rattle.search_memo.proofs.stored_states.Finder.TheSendSync as finder
use Rattle.search_memo.proofs.memo.Transition.TheSendSync as transition

module _ (J A : RattleType) (s : scene.Ghosts J.Denot) (g : alloc.Ghosts A.Denot) where
  entry_send : IsSend A → IsSync A → Frees g g.dealloc_token → IsSend (RefutedEntry.the_row J A s g)
  entry_send sa ya f = search (store.the_send, store.the_sync, arc.the_send, mark.the_field_send, sendable) depth 60 fits 20000

  entry_sync : IsSend A → IsSync A → Frees g g.dealloc_token → IsSync (RefutedEntry.the_row J A s g)
  entry_sync sa ya f = search (store.the_send, store.the_sync, arc.the_sync, mark.the_field_sync, sendable) depth 60 fits 20000

  part_sync : IsSend A → IsSync A → Frees g g.dealloc_token → IsSync (Part.the_row J A s g)
  part_sync sa ya f = search (entry_send, entry_sync, slot.the_send, slot.the_sync, vec.the_send, vec.the_sync, sendable) depth 60 fits 20000

  pub shared_sync : IsSend A → IsSync A → Frees g g.dealloc_token → IsSync (Shared.the_row J A s g)
  shared_sync sa ya f = search (part_sync, vec.the_sync, atomic.the_sync, sendable) depth 60 fits 20000

module _ (κ : NamedLft) (A : RattleType) (g : alloc.Ghosts A.Denot) (c : clone.Ghosts A.Denot) where
  kept_send : IsSend A → IsSync A → Frees g g.dealloc_token → IsSend (StoredStates.the_row A g)
  kept_send sa ya f = search (store.the_send, sendable) depth 60 fits 20000

  vec_send : (T : RattleType) → IsSend T → IsSend A → IsSync A → Frees g g.dealloc_token → IsSend (Vec.the_field T A g).row
  vec_send T st sa ya f = search (vec.the_send, sendable) depth 60 fits 20000

  finder_send : IsSend A → IsSync A → Frees g g.dealloc_token → IsSend (Finder.the_field A g).row
  finder_send sa ya f = search (finder.the_field_send, sendable) depth 60 fits 20000

  index_send : IsSend A → IsSync A → Frees g g.dealloc_token → IsSend (Index.the_field A g).row
  index_send sa ya f = search (index.the_field_send, sendable) depth 60 fits 20000

  visited_send : IsSend A → IsSync A → Frees g g.dealloc_token → IsSend (VisitedSet.the_field A g).row
  visited_send sa ya f = search (visited.the_send, sendable) depth 60 fits 20000

  pub shape_shared : IsSend A → IsSync A → Frees g g.dealloc_token → IsSend (Field.shr_ref_field κ (Shape.the_row A g c) tt).row
  shape_shared sa ya f = search (shape_sync, sendable) depth 60 fits 20000

  seen_send : IsSend A → IsSync A → Frees g g.dealloc_token → IsSend (Seen.the_row A g)
  seen_send sa ya f = search (store.the_send, store.the_sync, arc.the_send, sendable) depth 60 fits 20000

  seen_at_send : IsSend A → IsSync A → Frees g g.dealloc_token → IsSend (Option.the_row (Seen.the_row A g))
  seen_at_send sa ya f = search (seen_send, option.the_send, sendable) depth 60 fits 20000

  pub memo_send : (N R : RattleType) (h : recorder.Ghosts R.Denot N.Denot A.Denot) → IsSend N → IsSend R → IsSend A → IsSync A → Frees g g.dealloc_token → IsSend (Memo.the_row κ N R A h g c)
  memo_send N R h sn sr sa ya f =
      let shape = shape_shared sa ya f in
      let kept = vec_send (StoredStates.the_row A g) (kept_send sa ya f) sa ya f in
      let finder = finder_send sa ya f in
      let transitions = vec_send Transition.the_row transition.the_send sa ya f in
      let index = index_send sa ya f in
      let visited = visited_send sa ya f in
      let notes = vec_send N sn sa ya f in
      let seen = vec_send (Option.the_row (Seen.the_row A g)) (seen_at_send sa ya f) sa ya f in
      search sendable depth 60 fits 20000

  module _ (J : RattleType) (s : scene.Ghosts J.Denot) where
    pub sharing_send : IsSend A → IsSync A → Frees g g.dealloc_token → IsSend (Sharing.the_row κ J A s g)
    sharing_send sa ya f = search (shared_sync, sendable) depth 60 fits 20000

    pub shared_shared : IsSend A → IsSync A → Frees g g.dealloc_token → IsSend (Option.the_field (Field.shr_ref_field κ (Shared.the_row J A s g) tt).row).row
    shared_shared sa ya f = search (shared_sync, option.the_field_send, sendable) depth 60 fits 20000
