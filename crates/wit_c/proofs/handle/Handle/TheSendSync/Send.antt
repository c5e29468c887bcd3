-- A handle may go to another thread, since what it owns may, and what frees it.
use Rattle.std.specs.Prelude.{Option, None, Some}
use mir.Raw.{raw}
use base.Shift.{Keyless}
use denote.Memory.{lone}
use denote.RawPtr.{Ptr}
use denote.Param.Send.{IsSend, owning_send, sendable}
use Rattle.std_alloc.proofs.SendSync.{lies}
use Rattle.std_heap.specs.declared.Global.{Global}
use Rattle.std_heap.specs.contracts.GlobalAllocator.TheImpl.{ghosts}
use Rattle.std_heap.proofs.GlobalAllocator.TheSendSync.{the_frees}
use Rattle.std_heap.proofs.Global.TheSendSync.{the_field_send as global_send}
use Rattle.wit_c.specs.Owned.{owned}
use Rattle.wit_c.specs.contracts.kept_verifier.KeptVerifier.{the_row as R}
use Rattle.wit_c.proofs.kept_verifier.KeptVerifier.TheSendSync.{the_send as value_send}
use Rattle.wit_c.specs.contracts.handle.Handle.{the_row, the_type}

owned_keyless : (a : Global) (p : Ptr) (o : Option R.Denot) → Keyless (owned (ghosts.dealloc_token a) R p o)
owned_keyless a p None = tt
owned_keyless a p (Some x) = (lies R value_send p x, the_frees.frees a (raw (lone R.mir)) p)

pub send : IsSend the_row
send = owning_send the_type (search sendable, (global_send, tt)) (λ h. owned_keyless h.alloc h.at h.value) (λ k x w. tt)
