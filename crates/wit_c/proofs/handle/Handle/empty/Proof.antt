-- `empty` makes a handle that owns nothing.
use Rattle.std.proofs.Common.{◌≡◌, List, [], ◌∷◌, ◌++◌, refl, sym, subst}
use denote.Laws.{Is, shows}
use Rattle.std.specs.Prelude.{None}
use mir.Val.{Val}
use base.Logic.{SProp, ent, emp, id⊢}
use base.Fml.{ftrue}
use prog.Wp.{WpFn}
use types.Kit.{‵, raw, ◌⊛◌, ◌$◌, ◌∵◌, !, qed, by, move, keep, split, fsplit, fjoin, suffices, use0, rewrite}
use types.Run.{lit, no_more, and_then, returns, enter}
use types.ByLocal.{alloc_all, pass_all, free_all, look_at, get, sets}
use types.Part.{agg}
use contract.Monad.{fact, fact_i}
use contract.Running.{tables}
use denote.Exit.{yes}
use denote.RattleType.{owns}
use denote.Signature.{types_at, plain}
use denote.RawPtr.{null_ptr}
use denote.Steps.{peeks, nothing}
use denote.Triple.Walked.{Stays, stay_dropped, walk_of}
use Rattle.core.proofs.alloc.Calls.{Goes-blank}
use Rattle.std.proofs.raw_atomic.Walks.{proved_at, leaves}
use Rattle.std_heap.proofs.Handle.{heap_val, heap_Tells}
use Rattle.wit_c.proofs.Values.{Global, Handle, both, handle_in, heap_good, handle_good}
use Rattle.wit_c.specs.contracts.handle.Handle.empty.{ended, clauses}
use Rattle.wit_c.specs.contracts.handle.Handle.empty.Key.{name as #self}
use Rattle.wit_c.proofs.handle.Handle.empty.Statement.{statement}
use Rattle.wit_c.proofs.handle.Handle.empty.Code as code

pub empty_spec : {M : Type 1} → statement M
empty_spec 𝓤 𝓛 𝓜 𝓡 wired =
    let H = 𝓛.H in let 𝓣 = tables 𝓤 H 𝓜 𝓡 𝓡.env in let c = clauses 𝓛 𝓜.mem 𝓡.returns in
    let hs : Stays ended.signature.params ended.kept = (stay_dropped (plain (λ _. Global)) yes, tt) in
    proved_at 𝓛 ended hs c 𝓜 𝓡 (Goes-blank 𝓛 0 (plain (λ _. Global)) yes (λ κs x f. tt), tt) #self code.function (code.unfolded 𝓤 H 𝓜 𝓡 wired) (λ z are.
    let v = z.0.3.0 in let Post : Val → SProp 𝓤 = (walk_of 𝓛 ended hs c).post z in let Run : List Val → SProp 𝓤 = λ ws. WpFn 𝓤 H 𝓣.C 𝓣.Λ code.function ws Post in
    qed 𝓛 ((‵ ftrue ⊛ ‵ (owns (types_at ended.signature.params z.0.0) z.0.3 z.0.4)) ∷ raw ((c z.0.0 z.0.3).requires z.1) ∷ []) ∵ split ! $ move ! (1 ∷ []) $ fsplit ! $ peeks ! Global (Is Global) (shows 𝓛 Global) v z.0.4.0 (λ is.
    let ws = heap_Tells v z.0.4.0 is in
    rewrite ! 0 (λ (us : List Val). ‵ (Global.own_val v us)) ws refl $
    suffices ! (Run (heap_val ∷ [])) (subst (λ (us : List Val). ent 𝓤 (Run (heap_val ∷ [])) (Run us)) (sym (λ i. ws i ++ [])) (id⊢ 𝓤 (Run (heap_val ∷ [])))) $
    enter ! 𝓣.C 𝓣.Λ code.function (heap_val ∷ []) Post $ alloc_all ! (λ l. pass_all ! refl (heap_good, tt) $
    sets ! (agg ! (and_then ! (lit ! tt) (and_then ! (get ! refl) (no_more !)))) refl (handle_good null_ptr) $
    let made : Handle.Denot = record { at = null_ptr; alloc = v; value = None } in
    nothing ! $ handle_in ! made $ use0 𝓛 (raw (fact 𝓤 (made.value ≡ None))) (fact_i 𝓤 (made.value ≡ None) (emp 𝓤) refl) $ nothing ! $ nothing ! $ fjoin ! $ nothing ! $
    returns ! (look_at ! 0 refl) $ free_all ! refl $ keep ! (0 ∷ 1 ∷ 3 ∷ 2 ∷ []) $ by ! (leaves 𝓛 ended hs c z (both null_ptr) made (tt, tt) (tt, tt)))))
