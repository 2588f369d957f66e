-- Which closures may be shared, and which may go to another thread, by their captures. A call of `search` that cites these
-- builds no pairs, so it stays short where many facts are in reach.
use mathlib.Core.List.{[], ◌∷◌}
use mir.Syntax.{Sym}
use denote.RattleType.{RattleType}
use denote.Struct.Tuple.{TupleAt}
use denote.Param.Send.{IsSend, IsSync, sendable}

pub one_sync : (ν : Sym) (A : RattleType) → IsSync A → IsSync (TupleAt ν (A ∷ []))
one_sync ν A a = search sendable depth 20

pub two_sync : (ν : Sym) (A B : RattleType) → IsSync A → IsSync B → IsSync (TupleAt ν (A ∷ B ∷ []))
two_sync ν A B a b = search sendable depth 20

pub three_sync : (ν : Sym) (A B C : RattleType) → IsSync A → IsSync B → IsSync C → IsSync (TupleAt ν (A ∷ B ∷ C ∷ []))
three_sync ν A B C a b c = search sendable depth 20

pub four_sync : (ν : Sym) (A B C D : RattleType) → IsSync A → IsSync B → IsSync C → IsSync D → IsSync (TupleAt ν (A ∷ B ∷ C ∷ D ∷ []))
four_sync ν A B C D a b c d = search sendable depth 20

pub five_sync : (ν : Sym) (A B C D E : RattleType) → IsSync A → IsSync B → IsSync C → IsSync D → IsSync E → IsSync (TupleAt ν (A ∷ B ∷ C ∷ D ∷ E ∷ []))
five_sync ν A B C D E a b c d e = search sendable depth 20

pub six_sync : (ν : Sym) (A B C D E F : RattleType) → IsSync A → IsSync B → IsSync C → IsSync D → IsSync E → IsSync F → IsSync (TupleAt ν (A ∷ B ∷ C ∷ D ∷ E ∷ F ∷ []))
six_sync ν A B C D E F a b c d e f = search sendable depth 20

pub seven_sync : (ν : Sym) (A B C D E F G : RattleType) → IsSync A → IsSync B → IsSync C → IsSync D → IsSync E → IsSync F → IsSync G → IsSync (TupleAt ν (A ∷ B ∷ C ∷ D ∷ E ∷ F ∷ G ∷ []))
seven_sync ν A B C D E F G a b c d e f g = search sendable depth 20

pub eight_sync : (ν : Sym) (A B C D E F G H : RattleType) → IsSync A → IsSync B → IsSync C → IsSync D → IsSync E → IsSync F → IsSync G → IsSync H → IsSync (TupleAt ν (A ∷ B ∷ C ∷ D ∷ E ∷ F ∷ G ∷ H ∷ []))
eight_sync ν A B C D E F G H a b c d e f g h = search sendable depth 20

pub one_send : (ν : Sym) (A : RattleType) → IsSend A → IsSend (TupleAt ν (A ∷ []))
one_send ν A a = search sendable depth 20

pub two_send : (ν : Sym) (A B : RattleType) → IsSend A → IsSend B → IsSend (TupleAt ν (A ∷ B ∷ []))
two_send ν A B a b = search sendable depth 20

pub three_send : (ν : Sym) (A B C : RattleType) → IsSend A → IsSend B → IsSend C → IsSend (TupleAt ν (A ∷ B ∷ C ∷ []))
three_send ν A B C a b c = search sendable depth 20

pub four_send : (ν : Sym) (A B C D : RattleType) → IsSend A → IsSend B → IsSend C → IsSend D → IsSend (TupleAt ν (A ∷ B ∷ C ∷ D ∷ []))
four_send ν A B C D a b c d = search sendable depth 20

pub five_send : (ν : Sym) (A B C D E : RattleType) → IsSend A → IsSend B → IsSend C → IsSend D → IsSend E → IsSend (TupleAt ν (A ∷ B ∷ C ∷ D ∷ E ∷ []))
five_send ν A B C D E a b c d e = search sendable depth 20

pub six_send : (ν : Sym) (A B C D E F : RattleType) → IsSend A → IsSend B → IsSend C → IsSend D → IsSend E → IsSend F → IsSend (TupleAt ν (A ∷ B ∷ C ∷ D ∷ E ∷ F ∷ []))
six_send ν A B C D E F a b c d e f = search sendable depth 20

pub seven_send : (ν : Sym) (A B C D E F G : RattleType) → IsSend A → IsSend B → IsSend C → IsSend D → IsSend E → IsSend F → IsSend G → IsSend (TupleAt ν (A ∷ B ∷ C ∷ D ∷ E ∷ F ∷ G ∷ []))
seven_send ν A B C D E F G a b c d e f g = search sendable depth 20

pub eight_send : (ν : Sym) (A B C D E F G H : RattleType) → IsSend A → IsSend B → IsSend C → IsSend D → IsSend E → IsSend F → IsSend G → IsSend H → IsSend (TupleAt ν (A ∷ B ∷ C ∷ D ∷ E ∷ F ∷ G ∷ H ∷ []))
eight_send ν A B C D E F G H a b c d e f g h = search sendable depth 20

pub ruleset captures = (one_sync, two_sync, three_sync, four_sync, five_sync, six_sync, seven_sync, eight_sync, one_send, two_send, three_send, four_send, five_send, six_send, seven_send, eight_send)
