-- Of the worked histories: all orders that show each, what is reported of some that do not, and kids. All by computing.
use Rattle.std.specs.Prelude.{◌≡◌, ℕ, [], ◌∷◌, Some, None, Err, refl}
use Rattle.aud_history.specs.declared.rule.Rule.TheVariants.{RetWithoutInv, AbortWithoutCause}
use Rattle.aud_history.specs.declared.state.TxState.TheVariants.{Idle}
use Rattle.aud_history.specs.Histories.{events_of}
use Rattle.aud_history.specs.ByState.{run}
use Rattle.aud_history.specs.Worked.{x_at_0, x_at_5, x_and_y_at_0, counter_at_0, empty_set, empty_queue, reader_after_commit, torn_read_then_abort, pending_commit_is_seen, pending_commit_is_unseen, stale_read_after_commit, live_write_is_seen, read_before_commit, item_is_passed_on, idle_write_stands_later, count_is_lost, both_find_it_absent, answer_unasked, abort_while_idle}
use Rattle.aud_witness.specs.declared.decision.Fate.TheVariants.{C, A}
use Rattle.aud_witness.specs.declared.decision.Decision.{Decision}
use Rattle.aud_witness.specs.declared.fault.OrderFault.TheVariants.{FateNotAllowed, RealTime, Illegal, Missing}
use Rattle.aud_witness.specs.Orders.{Opaque}
use Rattle.aud_witness.specs.Enumeration.{witnesses}
use Rattle.aud_witness.specs.OrderFaults.{first_order_fault, kids}
use Rattle.aud_witness.proofs.Tested.{Shows-from_test}
use Rattle.aud_witness.proofs.Enumerated.{not_Opaque}

abbrev pub c : ℕ → Decision
c t = record { tx = t; fate = C }

abbrev pub a : ℕ → Decision
a t = record { tx = t; fate = A }

-- the empty history is shown by the empty order
nothing_happened-witnesses : witnesses [] [] ≡ [] ∷ []
nothing_happened-witnesses = refl

reader_after_commit-witnesses : witnesses x_at_0 reader_after_commit ≡ (c 1 ∷ c 2 ∷ []) ∷ []
reader_after_commit-witnesses = refl

torn_read_then_abort-witnesses : witnesses x_and_y_at_0 torn_read_then_abort ≡ []
torn_read_then_abort-witnesses = refl

pending_commit_is_seen-witnesses : witnesses x_at_0 pending_commit_is_seen ≡ (c 1 ∷ c 2 ∷ []) ∷ []
pending_commit_is_seen-witnesses = refl

pending_commit_is_unseen-witnesses : witnesses x_at_0 pending_commit_is_unseen ≡ (a 1 ∷ c 2 ∷ []) ∷ (c 2 ∷ c 1 ∷ []) ∷ (c 2 ∷ a 1 ∷ []) ∷ []
pending_commit_is_unseen-witnesses = refl

stale_read_after_commit-witnesses : witnesses x_at_0 stale_read_after_commit ≡ []
stale_read_after_commit-witnesses = refl

live_write_is_seen-witnesses : witnesses x_at_0 live_write_is_seen ≡ []
live_write_is_seen-witnesses = refl

read_before_commit-witnesses : witnesses x_at_0 read_before_commit ≡ (c 1 ∷ c 2 ∷ []) ∷ []
read_before_commit-witnesses = refl

item_is_passed_on-witnesses : witnesses empty_queue item_is_passed_on ≡ (c 1 ∷ c 2 ∷ c 3 ∷ []) ∷ []
item_is_passed_on-witnesses = refl

idle_write_stands_later-witnesses : witnesses x_at_5 idle_write_stands_later ≡ (c 2 ∷ c 1 ∷ c 3 ∷ []) ∷ []
idle_write_stands_later-witnesses = refl

count_is_lost-witnesses : witnesses counter_at_0 count_is_lost ≡ []
count_is_lost-witnesses = refl

both_find_it_absent-witnesses : witnesses empty_set both_find_it_absent ≡ (a 2 ∷ c 1 ∷ []) ∷ []
both_find_it_absent-witnesses = refl

-- orders that are refused
reader_after_commit-reversed : first_order_fault x_at_0 reader_after_commit (c 2 ∷ c 1 ∷ []) ≡ Some (RealTime 2)
reader_after_commit-reversed = refl

reader_after_commit-short : first_order_fault x_at_0 reader_after_commit (c 1 ∷ []) ≡ Some (Missing 2)
reader_after_commit-short = refl

pending_commit_is_unseen-committed_first : first_order_fault x_at_0 pending_commit_is_unseen (c 1 ∷ c 2 ∷ []) ≡ Some (Illegal 2)
pending_commit_is_unseen-committed_first = refl

stale_read_after_commit-reversed : first_order_fault x_at_0 stale_read_after_commit (c 2 ∷ c 1 ∷ []) ≡ Some (RealTime 2)
stale_read_after_commit-reversed = refl

live_write_is_seen-committed : first_order_fault x_at_0 live_write_is_seen (c 1 ∷ c 2 ∷ []) ≡ Some (FateNotAllowed 1)
live_write_is_seen-committed = refl

item_is_passed_on-empty_first : first_order_fault empty_queue item_is_passed_on (c 1 ∷ c 3 ∷ c 2 ∷ []) ≡ Some (Illegal 3)
item_is_passed_on-empty_first = refl

item_is_passed_on-taken_first : first_order_fault empty_queue item_is_passed_on (c 2 ∷ c 1 ∷ c 3 ∷ []) ≡ Some (Illegal 2)
item_is_passed_on-taken_first = refl

count_is_lost-in_turn : first_order_fault counter_at_0 count_is_lost (c 1 ∷ c 2 ∷ c 3 ∷ []) ≡ Some (Illegal 3)
count_is_lost-in_turn = refl

count_is_lost-aborted : first_order_fault counter_at_0 count_is_lost (a 1 ∷ c 2 ∷ c 3 ∷ []) ≡ Some (Illegal 2)
count_is_lost-aborted = refl

count_is_lost-against_time : first_order_fault counter_at_0 count_is_lost (c 3 ∷ c 1 ∷ c 2 ∷ []) ≡ Some (RealTime 3)
count_is_lost-against_time = refl

both_find_it_absent-in_turn : first_order_fault empty_set both_find_it_absent (c 1 ∷ a 2 ∷ []) ≡ Some (Illegal 2)
both_find_it_absent-in_turn = refl

both_find_it_absent-aborted_first : first_order_fault empty_set both_find_it_absent (a 2 ∷ c 1 ∷ []) ≡ None
both_find_it_absent-aborted_first = refl

-- kids
pending_commit_is_unseen-kids : kids x_at_0 pending_commit_is_unseen [] ≡ c 1 ∷ a 1 ∷ c 2 ∷ []
pending_commit_is_unseen-kids = refl

pending_commit_is_unseen-kids_committed : kids x_at_0 pending_commit_is_unseen (c 1 ∷ []) ≡ []
pending_commit_is_unseen-kids_committed = refl

pending_commit_is_unseen-kids_reader : kids x_at_0 pending_commit_is_unseen (c 2 ∷ []) ≡ c 1 ∷ a 1 ∷ []
pending_commit_is_unseen-kids_reader = refl

torn_read_then_abort-kids : kids x_and_y_at_0 torn_read_then_abort [] ≡ c 1 ∷ []
torn_read_then_abort-kids = refl

torn_read_then_abort-kids_committed : kids x_and_y_at_0 torn_read_then_abort (c 1 ∷ []) ≡ []
torn_read_then_abort-kids_committed = refl

-- histories that are not well-formed
answer_unasked-rule : run Idle (events_of 1 answer_unasked) ≡ Err RetWithoutInv
answer_unasked-rule = refl

abort_while_idle-rule : run Idle (events_of 1 abort_while_idle) ≡ Err AbortWithoutCause
abort_while_idle-rule = refl

-- the same by the definition itself
reader_after_commit-opaque : Opaque x_at_0 reader_after_commit
reader_after_commit-opaque = (c 1 ∷ c 2 ∷ [], Shows-from_test x_at_0 reader_after_commit (c 1 ∷ c 2 ∷ []) refl)

torn_read_then_abort-not_opaque : Opaque x_and_y_at_0 torn_read_then_abort → ⊥
torn_read_then_abort-not_opaque = not_Opaque x_and_y_at_0 torn_read_then_abort refl

stale_read_after_commit-not_opaque : Opaque x_at_0 stale_read_after_commit → ⊥
stale_read_after_commit-not_opaque = not_Opaque x_at_0 stale_read_after_commit refl

live_write_is_seen-not_opaque : Opaque x_at_0 live_write_is_seen → ⊥
live_write_is_seen-not_opaque = not_Opaque x_at_0 live_write_is_seen refl

idle_write_stands_later-opaque : Opaque x_at_5 idle_write_stands_later
idle_write_stands_later-opaque = (c 2 ∷ c 1 ∷ c 3 ∷ [], Shows-from_test x_at_5 idle_write_stands_later (c 2 ∷ c 1 ∷ c 3 ∷ []) refl)

count_is_lost-not_opaque : Opaque counter_at_0 count_is_lost → ⊥
count_is_lost-not_opaque = not_Opaque counter_at_0 count_is_lost refl

both_find_it_absent-opaque : Opaque empty_set both_find_it_absent
both_find_it_absent-opaque = (a 2 ∷ c 1 ∷ [], Shows-from_test empty_set both_find_it_absent (a 2 ∷ c 1 ∷ []) refl)
