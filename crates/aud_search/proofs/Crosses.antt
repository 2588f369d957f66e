-- Which memories may cross threads: each session, as all that it holds may.
use denote.RattleType.{RattleType}
use denote.Ref.{NamedLft}
use denote.Param.Send.{IsSend, struct_send, sendable}
use denote.Struct.Declared as declared
use Rattle.std.proofs.Crossing as heap
use Rattle.search_memo.specs.declared.shared.Scene as scene
use Rattle.search_memo.proofs.recorder.Unnoted.TheSendSync as unnoted
use Rattle.search_memo.proofs.Crosses.{shape_shared, memo_send, sharing_send, shared_shared}
use Rattle.aud_search.specs.contracts.searches.Session as Session
use Rattle.aud_search.specs.contracts.searches.Session.TheInside as Inside

module _ (κ : NamedLft) (J : RattleType) (s : scene.Ghosts J.Denot) where
  pub session_send : IsSend (Session.the_row κ J s)
  session_send =
      let inside =
      struct_send (declared.shape (Inside.the_type κ J s)) (
        search sendable depth 20,
        (
          search (shape_shared, heap.send, heap.sync, heap.frees, sendable) depth 20,
          (
            search (shared_shared, heap.send, heap.sync, heap.frees, sendable) depth 20,
            (
              search sendable,
              (
                search (memo_send, sharing_send, unnoted.the_send, heap.send, heap.sync, heap.frees, sendable) depth 20,
                (
                  search sendable,
                  (search sendable, tt),
                ),
              ),
            ),
          ),
        ),
      ) in
      search sendable
