-- What the place held is forgotten, and the new value stays there. Assumes `Logic`.
use Rattle.wit_pool.proofs.Steps.{refl, sym, ap, subst, ◌∙◌, ℕ, ◌+◌, ◌*◌, ◌<◌, ◌^◌, List, [], ◌∷◌}
use Rattle.wit_pool.proofs.Steps.{◌++◌, length, get_or, set, length-set, full_share, SProp, never}
use Rattle.wit_pool.proofs.Steps.{id⊢, ftrue, fat, flft, inst_fn, Val, vptr, vunit, WpFn, fact}
use Rattle.wit_pool.proofs.Steps.{tables, ◌⊑◌, ‵, raw, ◌⊛◌, at_ret, ◌$◌, ◌∵◌, !, qed, move, keep}
use Rattle.wit_pool.proofs.Steps.{skip, use1, use2, split, join, fsplit, fsplit3, fjoin, fjoin3}
use Rattle.wit_pool.proofs.Steps.{feq_i, feq_l, flt_i, flt_l, rewrite, suffices, frame, done, whole}
use Rattle.wit_pool.proofs.Steps.{sub, enter, init, unit_lit, from, stop, fld, hop, of_opd}
use Rattle.wit_pool.proofs.Steps.{assigns_last, first, blocks, exec, returns, alloc_all, pass_all}
use Rattle.wit_pool.proofs.Steps.{free_all, look_at, look_in_at, get, sets, take_at, give_at, env}
use Rattle.wit_pool.proofs.Steps.{no, owns, layout, Ptr, in_a_block, plain, types_at, nothing}
use Rattle.wit_pool.proofs.Steps.{heard, opens, closes, Stays, stay_dropped, stay_ref, walk_of}
use Rattle.wit_pool.proofs.Steps.{says, ends_at, Goes-dropped, Goes-ref, Some, None, proved_at}
use Rattle.wit_pool.proofs.Steps.{after, word, word-Good, as_written, El, R, args, elτ, slot, slots}
use Rattle.wit_pool.proofs.Steps.{cells_own, sz, word_had, tells, value_in, slot_out, slot_in, spot}
use Rattle.wit_pool.proofs.Steps.{spot_at, IsPlace}
use Rattle.circular_buffer.proofs.Memory.{Besides}
use Rattle.wit_pool.proofs.Memory.{Cr, Lk, slot_emptied, at_words}
use Rattle.wit_pool.specs.contracts.cells.Cells.put as f
use Rattle.wit_pool.proofs.cells.Cells.put.Statement.{statement}
use Rattle.wit_pool.proofs.cells.Cells.put.Code as code

pub put_spec : {M : Type 1} → statement M
put_spec 𝓤 𝓛 𝓜 𝓡 wired X LX =
    let E : El = record { row = X; laws = LX } in let s : ℕ = sz E in
    let 𝓣 = tables 𝓤 𝓛.H 𝓜 𝓡 𝓡.env in let fn = inst_fn (args E) code.function in
    let T = f.ended X in let c = f.clauses X 𝓛 𝓜.mem 𝓡.returns in
    let hs : Stays T.signature.params T.kept = (
      stay_ref (0 ∷ []) tt (plain (λ _. Cr E)),
      (stay_dropped (plain (λ _. Lk E)) no, (stay_dropped (plain (λ _. R E)) no, tt)),
    ) in
    proved_at 𝓛 T hs c 𝓜 𝓡 (
      Goes-ref 𝓛 2 0 tt (plain (λ _. Cr E)),
      (
        Goes-dropped 𝓛 2 (plain (λ _. Lk E)) no (λ κs x w. refl),
        (Goes-dropped 𝓛 2 (plain (λ _. R E)) no (λ κs x w. refl), tt),
      ),
    )
    (f.Key.name (args E)) fn (code.unfolded 𝓤 𝓛.H 𝓜 𝓡 wired (X, tt)) (λ y are.
    let κs = y.0.0 in let qs = y.0.1 in let a = y.0.3 in let us = y.0.4 in
    let rb = a.0.ref_ptr.0 in let ro = a.0.ref_ptr.1 in let cs = a.0.now in let link = a.1.0 in
    let item = a.1.1.0 in
    let Post : Val → SProp 𝓤 = (walk_of 𝓛 T hs c).post y in
    let Runs : List Val → SProp 𝓤 = λ ws. WpFn 𝓤 𝓛.H 𝓣.C 𝓣.Λ fn ws Post in
    let i : ℕ = spot (R E) cs.at link.ptr in
    let was = get_or cs.slots i None in
    let new : (Cr E).Denot =
    record { mark = cs.mark; at = cs.at; slots = set cs.slots i (Some item) } in
    qed 𝓛 (((‵ (flft κs.0 qs.0) ⊛ (‵ (flft κs.1.0 qs.1.0) ⊛ ‵ ftrue)) ⊛ ‵ (owns
    (types_at T.signature.params κs) a us))
    ∷ (raw (fact 𝓤 (κs.1.0 ⊑ X.lives)) ⊛ raw (fact 𝓤 (IsPlace (R E) cs.at cs.slots link.ptr))) ∷ [])
    ∵
    move ! (1 ∷ []) $ split ! $ heard ! _ (λ short. heard ! _ (λ asked.
    split ! $ split ! $ move ! (2 ∷ []) $ fsplit ! $ fsplit3 !
    $ feq_l ! (λ e0. move ! (2 ∷ []) $ fsplit ! $
    word_had ! link.ptr us.1.0 (λ e1.
    fsplit ! $ tells X LX ! item us.1.1.0 (λ v e2 good.
    suffices ! (Runs (vptr rb ro ∷ word link.ptr ∷ v ∷ []))
    (at_words 𝓤 Runs (λ j. e0 j ++ (e1 j ++ (e2 j ++ [])))) $
    enter ! _ _ _ _ _ $ alloc_all !
    (λ l. pass_all ! refl ((tt, tt), (word-Good [] link.ptr, (good, tt))) $
    -- [the value; nothing; what is observed; the borrow; the first token; the other ones]
    move ! (1 ∷ []) $ skip ! $ move ! (1 ∷ 2 ∷ 3 ∷ []) $ opens ! tt (Cr E) {h = cs} rb ro (λ vs.
    move ! (1 ∷ []) $ fsplit ! $ move ! (1 ∷ []) $
    in_a_block ! cs.at (λ p. cells_own (R E) p cs.slots) (id⊢ 𝓤 (never 𝓤)) (λ b o e. fsplit ! $
    flt_l ! (λ small.
    -- the pointer's place is taken out of the row and emptied, written, and put back
    take_at ! 2 $ rewrite ! 0 (λ (p : Ptr). ‵ (fat full_share (layout (Lk E)) (l 2) 0 (word p)))
    (asked.0 ∙ ap (λ p. spot_at (R E) p i) e) refl $
    give_at ! 2 $ use1 𝓛 (‵ (slot (R E) b (i * s + o) was) ⊛ ‵ (Besides E 𝓛 b o cs.slots i))
    (slot_out E 𝓛 b o cs.slots i asked.1) $ split ! $
    use1 𝓛 (‵ (slot (R E) b (i * s + o) None)) (slot_emptied E 𝓛 b (i * s + o) was) $
    as_written ! (elτ E) b (i * s + o) $
    first ! $ blocks ! $ sets ! (of_opd ! (get ! refl)) refl good $
    assigns_last ! (of_opd ! (get ! refl))
    (from ! (fld ! refl (hop ! (look_in_at ! 2 (sub ! 0 refl (whole !)))
    (stop !)))) (init ! 0 refl good) $
    exec ! 𝓣.C 𝓣.Λ (env fn.locals l) (after 1 fn.body) (at_ret _ Post) $
    sets ! (of_opd ! (unit_lit !)) refl (tt, tt) $
    -- [the place, written; the other places; what is left of the owner; the open borrow; the value;
    -- the other tokens]
    move ! (0 ∷ 7 ∷ []) $ use2 𝓛 (‵ (slot (R E) b (i * s + o) (Some item)))
    (value_in 0 X LX 𝓛 item b (i * s + o) v) $
    use2 𝓛 (‵ (slots (R E) b o new.slots)) (slot_in E 𝓛 b o cs.slots i asked.1 (Some item)) $
    flt_i ! (length new.slots * s) (2 ^ 63) (subst (λ k. k * s < 2 ^ 63)
    (sym (length-set cs.slots i (Some item))) small) $
    fjoin ! $ rewrite ! 0 (λ (p : Ptr). ‵ (cells_own (R E) p new.slots)) (sym e) refl
    $ move ! (1 ∷ 0 ∷ []) $
    fjoin ! $
    move ! (1 ∷ 0 ∷ []) $ closes ! tt (Cr E) new vs rb ro $ returns ! (look_at ! 0 refl)
    $ free_all ! refl $
    -- [the owner, as what is observed and the borrow; the first token; the other ones]
    keep ! (2 ∷ 3 ∷ 0 ∷ 1 ∷ []) $ join !
    $ suffices ! _ (ends_at 𝓛 T hs c y vunit tt (new, (tt, (tt, tt)))
    (tt, (tt, (tt, tt)))) $ says ! (refl, refl) $ frame ! $
    feq_i ! (List Val) us.0 (vptr rb ro ∷ []) e0 $ fjoin3 ! $ nothing ! $ nothing !
    $ fjoin ! $ nothing ! $
    fjoin ! $ move ! (1 ∷ 0 ∷ []) $ fjoin ! $
    feq_i ! (List Val) (vunit ∷ []) (vunit ∷ []) refl $ move ! (1 ∷ 0 ∷ []) $ done !))))))))))
