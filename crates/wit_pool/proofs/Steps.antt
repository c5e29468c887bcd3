-- The names that the walks cite. Assumes `Logic`.
pub use mathlib.Core.Path.{◌≡◌, refl, sym, ap, subst, ◌∙◌}
pub use Prim.Native.Nat.{ℕ, ◌+◌, ◌*◌, ◌<◌, ◌^◌}
pub use native.Mathlib.Omega.{arith}
pub use mathlib.Core.List.{List, [], ◌∷◌, ◌++◌}
pub use lib.ListN.{length, replicate, get_or, set, length-set, length-replicate}
pub use base.Fraction.{full_share}
pub use base.Logic.{SProp, ent, sep, never, id⊢}
pub use base.Fml.{Incl-trans, Fml, GName, ftrue, fsep, fat, flft, froom}
pub use mir.MapTy.{inst_fn}
pub use mir.Syntax.{Body, named, ty_array, ty_unit, w64}
pub use mir.Val.{Val, WT, has_ty, vint, vptr, vunit, vstruct, vcons, vnil}
pub use prog.Wp.{WpFn}
pub use contract.Monad.{fact}
pub use contract.Running.{tables}
pub use contract.BorrowLft.{◌⊑◌}
pub use seplogic.Ra.Ura.{Ura}
pub use types.Logic.{Logic, sem}
pub use types.Kit.{Sq, prop, ‵, raw, ◌⊛◌, some, given, later, at_ret, ◌$◌, ◌∵◌, !, qed, by, move}
pub use types.Kit.{keep, drop as skip, use0, use1, use2, use3, pick, split, split3, join, fsplit}
pub use types.Kit.{fsplit3, fjoin, fjoin3, fpack, feq_i, feq_l, flt_i, flt_l, learn, await, rewrite}
pub use types.Kit.{suffices, frame, group, done}
pub use types.Part.{whole, sub, agg}
pub use types.Run.{enter, init, lit, unit_lit, size_lit, size_word, align_word, bin, addr, from}
pub use types.Run.{stop, fld, hop, of_opd, and_then, no_more, assigns_last, switches_on, first}
pub use types.Run.{blocks, exec, returns}
pub use types.ByLocal.{alloc_all, pass_all, free_all, look_at, look_in_at, get, get_in, get_tag, is}
pub use types.ByLocal.{sets, sets_last, lands_as, lands_last, take_at, give_at, env}
pub use denote.Exit.{yes, no}
pub use denote.RattleType.{RattleType, owns}
pub use denote.Memory.{hidden_shr, mem, cell_at}
pub use denote.Param.{layout}
pub use denote.RawPtr.{Ptr, block_ptr, in_a_block, ptr_val}
pub use denote.Ref.{Bor, MutBor, MutRef, ShrRef}
pub use denote.Builtin.{RefOf, RefMutOf, unit, usize}
pub use denote.Signature.{plain, mut_ref_to, types_at}
pub use denote.Opens.{hide, unhide}
pub use denote.Steps.{nothing, heard, opens, closes, owned}
pub use denote.Triple.Call.{calls_at, calls_at_last}
pub use denote.Triple.Table.{framed}
pub use denote.Triple.Walked.{Stays, stay_dropped, stay_ref, walk_of, says, ends_at, Goes-dropped}
pub use denote.Triple.Walked.{Goes-ref, Goes-spent_ref}
pub use denote.Follow.{follows, lends_Part}
pub use Rattle.std.specs.Prelude.{Some, None}
pub use Rattle.std.specs.Mem.{type_size}
pub use Rattle.std.proofs.raw_atomic.Walks.{proved_at}
pub use Rattle.std_alloc.proofs.VecSteps.Shapes.{after}
pub use Rattle.std_alloc.proofs.RcSteps.{Good, word, word-Good}
pub use Rattle.std_alloc.proofs.RawLayout.{as_raw, as_written}
pub use Rattle.core.proofs.mem.Param.{El, R, args, elτ}
pub use Rattle.circular_buffer.specs.Ownership.{slot, slots, slot_lent, cells_own, cells_lent}
pub use Rattle.circular_buffer.proofs.Memory.{Place, sz, word_had, word_made, tells, value_in}
pub use Rattle.circular_buffer.proofs.Memory.{filled_within, slot_out, slot_in, slot_seen}
pub use Rattle.wit_pool.specs.Places.{spot, spot_at, IsPlace, IsSpot}
