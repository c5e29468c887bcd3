-- `into_parts` moves what the handle owns into the parts.
use Rattle.std.proofs.Common.{◌≡◌, List, [], ◌∷◌, ◌++◌, refl, sym, subst}
use Rattle.std.specs.Prelude.{Option, None, Some, IsSome, IfSome}
use Rattle.wit_c.specs.Owned.{owned}
use mir.Val.{Val}
use base.Logic.{SProp, ent, emp, id⊢}
use base.Fml.{ftrue}
use lib.Dec.{T}
use prog.Wp.{WpFn}
use types.Kit.{‵, raw, ◌⊛◌, ◌$◌, ◌∵◌, !, qed, by, move, keep, split, fsplit, fjoin, suffices, use0, rewrite}
use types.Run.{stop, fld, of_opd, no_more, and_then, returns, enter}
use types.ByLocal.{alloc_all, pass_all, free_all, look_at, get, get_in, sets}
use types.Part.{agg, sub, whole}
use contract.Monad.{fact, fact_i}
use contract.Running.{tables}
use denote.Exit.{yes}
use denote.RattleType.{owns}
use denote.Signature.{types_at, plain}
use denote.Steps.{nothing, heard}
use denote.Triple.Walked.{Stays, stay_dropped, walk_of}
use Rattle.core.proofs.alloc.Calls.{Goes-blank}
use Rattle.std.proofs.raw_atomic.Walks.{proved_at, leaves}
use Rattle.std_heap.specs.contracts.GlobalAllocator.TheImpl.{ghosts}
use Rattle.wit_c.specs.contracts.kept_verifier.KeptVerifier.{the_row as R}
use Rattle.wit_c.proofs.Values.{Parts, Handle, both, parts_in, handle_out, heap_good, ptr_good, parts_good, handle_good}
use Rattle.wit_c.specs.contracts.handle.Handle.into_parts.{ended, clauses}
use Rattle.wit_c.specs.contracts.handle.Handle.into_parts.Key.{name as #self}
use Rattle.wit_c.proofs.handle.Handle.into_parts.Statement.{statement}
use Rattle.wit_c.proofs.handle.Handle.into_parts.Code as code

there : (o : Option R.Denot) → IsSome o → (x : R.Denot) × (o ≡ Some x)
there (Some x) is = (x, refl)
there None is = absurd (subst T (sym is) tt)

pub into_parts_spec : {M : Type 1} → statement M
into_parts_spec 𝓤 𝓛 𝓜 𝓡 wired =
    let H = 𝓛.H in let 𝓣 = tables 𝓤 H 𝓜 𝓡 𝓡.env in let c = clauses 𝓛 𝓜.mem 𝓡.returns in
    let hs : Stays ended.signature.params ended.kept = (stay_dropped (plain (λ _. Handle)) yes, tt) in
    proved_at 𝓛 ended hs c 𝓜 𝓡 (Goes-blank 𝓛 0 (plain (λ _. Handle)) yes (λ κs x f. tt), tt) #self code.function (code.unfolded 𝓤 H 𝓜 𝓡 wired) (λ z are.
    let v = z.0.3.0 in let Post : Val → SProp 𝓤 = (walk_of 𝓛 ended hs c).post z in let Run : List Val → SProp 𝓤 = λ ws. WpFn 𝓤 H 𝓣.C 𝓣.Λ code.function ws Post in
    qed 𝓛 ((‵ ftrue ⊛ ‵ (owns (types_at ended.signature.params z.0.0) z.0.3 z.0.4)) ∷ raw (fact 𝓤 (IsSome v.value)) ∷ []) ∵ move ! (1 ∷ []) $ heard ! (IsSome v.value) (λ is. let found = there v.value is in
    split ! $ move ! (1 ∷ []) $ fsplit ! $ handle_out ! v z.0.4.0 (λ ws. rewrite ! 0 (λ (o : Option R.Denot). ‵ (owned (ghosts.dealloc_token v.alloc) R v.at o)) found.1 refl $
    let w : Val = both v.at in
    suffices ! (Run (w ∷ [])) (subst (λ (us : List Val). ent 𝓤 (Run (w ∷ [])) (Run us)) (sym (λ i. ws i ++ [])) (id⊢ 𝓤 (Run (w ∷ [])))) $
    enter ! 𝓣.C 𝓣.Λ code.function (w ∷ []) Post $ alloc_all ! (λ l. pass_all ! refl (handle_good v.at, tt) $
    sets ! (of_opd ! (get_in ! (fld ! refl (stop !)) (sub ! 0 refl (whole !)))) refl (ptr_good v.at) $ sets ! (of_opd ! (get_in ! (fld ! refl (stop !)) (sub ! 1 refl (whole !)))) refl heap_good $
    sets ! (of_opd ! (get ! refl)) refl (ptr_good v.at) $ sets ! (agg ! (and_then ! (get ! refl) (and_then ! (get ! refl) (no_more !)))) refl (parts_good v.at) $
    let made : Parts.Denot = record { ptr = v.at; alloc = v.alloc; value = found.0 } in
    parts_in ! made $ use0 𝓛 (raw (fact 𝓤 (IfSome v.value (λ c. made.value ≡ c)))) (fact_i 𝓤 (IfSome v.value (λ c. made.value ≡ c)) (emp 𝓤) (subst (λ (o : Option R.Denot). IfSome o (λ c. found.0 ≡ c)) (sym found.1) refl)) $ nothing ! $ nothing ! $ fjoin ! $ nothing ! $
    returns ! (look_at ! 0 refl) $ free_all ! refl $ keep ! (0 ∷ 1 ∷ 3 ∷ 2 ∷ []) $ by ! (leaves 𝓛 ended hs c z w made (tt, tt) (tt, tt))))))
