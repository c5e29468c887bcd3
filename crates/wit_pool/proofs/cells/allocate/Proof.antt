-- A block that the allocator gave is a row of empty places, with the right to give it back; where
-- it gave none, nothing is taken. Assumes `Logic`.
use Rattle.wit_pool.proofs.Steps.{◌≡◌, refl, sym, ap, subst, ℕ, ◌*◌, ◌<◌, ◌^◌, arith, List, [], ◌∷◌}
use Rattle.wit_pool.proofs.Steps.{◌++◌, length, replicate, length-replicate, SProp, Incl-trans}
use Rattle.wit_pool.proofs.Steps.{ftrue, flft, inst_fn, Body, ty_array, w64, Val, vint, vptr}
use Rattle.wit_pool.proofs.Steps.{vstruct, vcons, vnil, WpFn, fact, tables, ◌⊑◌, Sq, prop, ‵, raw}
use Rattle.wit_pool.proofs.Steps.{◌⊛◌, later, at_ret, ◌$◌, ◌∵◌, !, qed, move, keep, skip, use0}
use Rattle.wit_pool.proofs.Steps.{use1, use2, use3, split, join, fsplit, fjoin, feq_l, flt_i, flt_l}
use Rattle.wit_pool.proofs.Steps.{await, suffices, frame, done, whole, agg, enter, lit, size_word}
use Rattle.wit_pool.proofs.Steps.{align_word, bin, stop, fld, of_opd, and_then, no_more}
use Rattle.wit_pool.proofs.Steps.{switches_on, first, exec, returns, alloc_all, pass_all, free_all}
use Rattle.wit_pool.proofs.Steps.{look_at, get, get_in, get_tag, is, sets, sets_last, lands_as, env}
use Rattle.wit_pool.proofs.Steps.{yes, RattleType, owns, layout, Ptr, block_ptr, RefOf, usize}
use Rattle.wit_pool.proofs.Steps.{plain, types_at, nothing, heard, owned, calls_at, framed, Stays}
use Rattle.wit_pool.proofs.Steps.{stay_dropped, walk_of, says, ends_at, Goes-dropped, None}
use Rattle.wit_pool.proofs.Steps.{proved_at, after, Good, word, word-Good, as_written, El, R, elτ}
use Rattle.wit_pool.proofs.Steps.{slots, sz, word_made}
use lib.Dec.{lit<}
use mathlib.Core.Bool.{true, false}
use prog.Capped.{capped_fits}
use prog.Memory.{align, capped}
use prog.Wp.{Wp, after_seq, at_return}
use types.Kit.{Post as Goes, any_q}
use types.Match.{live, vrt, in_variant}
use denote.Laws.{Is}
use denote.Struct.Struct.{Struct, Struct-Makes}
use denote.Struct.Declared as Declared
use denote.Struct.Tuple.{Tuple}
use Rattle.std.specs.Prelude.{Ok, Err, IfOk}
use Rattle.std.specs.Vec.Ownership.{FitsInBlock}
use Rattle.core.specs.contracts.result.Result as Outcome
use Rattle.core.specs.contracts.alloc.AllocError as Want
use Rattle.core.proofs.alloc.Calls.{Al, Answer-typed, Takes, at_takes, Answered, Takes-goes}
use Rattle.core.proofs.alloc.Calls.{Takes-gives, answers}
use Rattle.core.proofs.slots.Leases.{uncapped, block_ty, block_size, block_align, args as both, P}
use Rattle.std_alloc.proofs.VecSteps.Shapes.{head, arm_body}
use Rattle.std_alloc.proofs.RcSteps.{first_Good}
use Rattle.std_alloc.proofs.ResultValues.{ok_of, err_of}
use Rattle.circular_buffer.proofs.Memory.{three_val, three_of, of_room}
use Rattle.wit_pool.proofs.Memory.{Cr, Lk, Marked, mark, mark_made, at_words}
use Rattle.wit_pool.specs.contracts.cells.Deed as Deeds
use Rattle.wit_pool.specs.contracts.cells.allocate as f
use Rattle.wit_pool.proofs.cells.allocate.Statement.{statement}
use Rattle.wit_pool.proofs.cells.allocate.Code as code

pub allocate_spec : {M : Type 1} → statement M
allocate_spec 𝓤 𝓛 𝓜 𝓡 wired X W LX LW g d dd met md =
    let E : El = record { row = X; laws = LX } in let s : ℕ = sz E in
    let Z : Al = record { row = W; laws = LW; g = g; d = d; drops = dd } in
    let 𝓣 = tables 𝓤 𝓛.H 𝓜 𝓡 𝓡.env in let fn = inst_fn (both E Z) code.function in
    let T = f.ended X W g d dd in let c = f.clauses X W g d dd 𝓛 𝓜.mem 𝓡.returns in
    let lent = RefOf (0 ∷ []) tt (plain {n = 3} (λ _. P E Z)) (λ _. tt) in
    let hs : Stays T.signature.params T.kept = (
      stay_dropped lent yes,
      (stay_dropped (plain (λ _. usize)) yes, tt),
    ) in
    let Dd : RattleType = Deeds.the_row (R E) (P E Z) g in
    let Three : RattleType = Tuple (Lk E ∷ Cr E ∷ Dd ∷ []) in
    let Out : RattleType = Outcome.the_row Three Want.the_row in
    proved_at 𝓛 T hs c 𝓜 𝓡 (
      Goes-dropped 𝓛 3 lent yes (λ κs x w. refl),
      (Goes-dropped 𝓛 3 (plain (λ _. usize)) yes (λ κs x w. refl), tt),
    )
    (f.Key.name (both E Z)) fn (code.unfolded 𝓤 𝓛.H 𝓜 𝓡 wired (X, (W, tt)) d dd) (λ y are.
    let κs = y.0.0 in let qs = y.0.1 in let a = y.0.3 in let us = y.0.4 in let κ =
    κs.0 in let q = qs.0 in
    let rb = a.0.ref_ptr.0 in let ro = a.0.ref_ptr.1 in let alloc = a.0.now in let n : ℕ = a.1.0 in
    let Post : Val → SProp 𝓤 = (walk_of 𝓛 T hs c).post y in
    let Runs : List Val → SProp 𝓤 = λ ws. WpFn 𝓤 𝓛.H 𝓣.C 𝓣.Λ fn ws Post in
    let others = ‵ (flft κs.1.0 qs.1.0) ⊛ (‵ (flft κs.1.1.0 qs.1.1.0) ⊛ ‵ ftrue) in
    let Gives : Out.Denot → Type 0 =
    λ r. IfOk r (λ t. (t.1.at ≡ t.0.ptr) × (t.1.slots ≡ replicate n None) ×
    (t.2.at ≡ t.0.ptr) × (t.2.len ≡ n) × (t.2.alloc ≡ alloc)) in
    let out : (r : Out.Denot) (v : Val) → Gives r → Sq 𝓛 (‵ (Out.own_val r (v ∷ [])) ∷ ‵
    (flft κ q) ∷ others ∷ []) (prop (Post v)) = λ r v gives.
    suffices ! _ (ends_at 𝓛 T hs c y v r (tt, (tt, tt)) (tt, (tt, tt))) $ says ! gives $
    move ! (1 ∷ 2 ∷ []) $ join ! $ frame ! $ nothing ! $ nothing ! $ fjoin ! $ nothing !
    $ fjoin ! $ done ! in
    qed 𝓛 (((‵ (flft κ q) ⊛ others) ⊛ ‵ (owns (types_at T.signature.params κs) a us))
    ∷ (raw (fact 𝓤 (κs.1.0 ⊑ X.lives)) ⊛
    (raw (fact 𝓤 (κs.1.1.0 ⊑ W.lives)) ⊛ raw (fact 𝓤 (FitsInBlock
    (R E) n)))) ∷ []) ∵
    move ! (1 ∷ []) $ split ! $ heard ! _ (λ short. split !
    $ heard ! _ (λ within. heard ! _ (λ asked.
    split ! $ move ! (1 ∷ []) $ fsplit ! $ fsplit !
    $ feq_l ! (λ e0. move ! (1 ∷ []) $ fsplit ! $ fsplit ! $
    feq_l ! (λ e1. flt_l ! (λ fits. skip ! $ move ! (1 ∷ []) $ split ! $
    let bytes : n * s < 2 ^ 64 = omega (arith, asked.0) in let al : ℕ = capped (align (elτ E)) in
    let G = Takes Z 𝓛 𝓜.mem 𝓡.returns in let z : G.Ghost =
    at_takes Z 𝓛 𝓜.mem 𝓡.returns κ q (rb, ro) alloc
    (n * s) al (block_ty E n) in
    suffices ! (Runs (vptr rb ro ∷ vint w64 n ∷ [])) (at_words 𝓤 Runs (λ j. e0 j ++ (e1 j ++ []))) $
    enter ! _ _ _ _ _ $ alloc_all !
    (λ l. pass_all ! refl ((tt, tt), ((tt, record { fits = fits }), tt)) $
    let En = env fn.locals l in let asks : Body = head (after 2 fn.body) in let rest : Body =
    after 3 fn.body in
    let Then : Goes 𝓤 𝓛.H =
    any_q (after_seq 𝓤 𝓛.H (Wp 𝓤 𝓛.H 𝓣.C 𝓣.Λ En rest (at_return 𝓤 𝓛.H En Post))
    (at_return 𝓤 𝓛.H En Post)) in
    -- [the first token; the allocator; the other tokens]
    sets ! (is ! (bin ! (get ! refl) (size_word !) (record {
      fits = subst (λ (k : ℕ). k < 2 ^ 64)
          (sym (uncapped n s bytes)) bytes;
    })) (ap (vint w64)
    (uncapped n s bytes))) refl (tt, record { fits = bytes }) $
    move ! (2 ∷ 0 ∷ 1 ∷ []) $
    use2 𝓛 (raw (G.pre z)) (Takes-goes Z 𝓛 𝓜.mem 𝓡.returns κ q (rb, ro) alloc
    (Incl-trans y.0.2.0 within)
    (n * s) al (block_ty E n) (block_size E n bytes) (block_align E n) bytes
    (capped_fits (align (elτ E)))) $
    calls_at ! (framed 𝓤 𝓛.H 𝓜 𝓣) G (met.allocate dd) z
    (and_then ! (get ! refl) (and_then ! (get ! refl)
    (and_then ! (align_word !) (no_more !)))) (λ v.
    use1 𝓛 (later (raw (Answered Z 𝓛 𝓜.mem 𝓡.returns alloc (block_ty E n) v) ⊛ ‵ (flft κ q)))
    (Takes-gives Z 𝓛 𝓜.mem 𝓡.returns κ q (rb, ro) alloc (n * s) al (block_ty E n) v) $
    await ! tt $ split ! $ answers Z ! 𝓜.mem 𝓡.returns alloc (block_ty E n) v
    -- [the room of a block; the right to give it back; the tokens]
    (λ b o e. let p : Ptr = block_ptr b o in
    let link : (Lk E).Denot = record { ptr = p } in
    let cells : (Cr E).Denot = record { mark = record {}; at = p; slots = replicate n None } in
    let deed : Dd.Denot = record { mark = record {}; at = p; len = n; alloc = alloc } in
    let parts : Val = three_val (word p) mark mark in
    let good : Good (layout Three) parts = (tt, ((tt, tt), ((tt, tt), ((tt, tt), tt)))) in
    let well = first_Good (layout Three) parts good in
    lands_as ! e refl (Answer-typed true b o) $ first ! $
    switches_on ! (get_tag ! (vrt ! refl (fld ! refl (stop !))) (whole !)) $
    exec ! 𝓣.C 𝓣.Λ En (arm_body 0 asks) Then $
    sets ! (of_opd ! (get_in ! (vrt ! refl (fld ! refl (stop !)))
    (in_variant ! 0 0 refl refl (whole !)))) refl (tt, tt) $
    sets ! (of_opd ! (get ! refl)) refl (tt, tt) $
    sets ! (agg ! (and_then ! (get ! refl) (no_more !))) refl (word-Good [] p) $
    sets ! (agg ! (no_more !)) refl (tt, tt) $
    sets ! (agg ! (and_then ! (get ! refl) (no_more !))) refl (tt, (tt, tt)) $
    sets ! (agg ! (no_more !)) refl (tt, tt) $
    sets ! (agg ! (and_then ! (get ! refl) (no_more !))) refl (tt, (tt, tt)) $
    sets ! (agg ! (and_then ! (get ! refl) (and_then ! (get ! refl) (and_then ! (get ! refl)
    (no_more !))))) refl good $
    sets_last ! (agg ! (and_then ! (lit ! tt) (and_then ! (get ! refl) (no_more !)))) refl well $
    exec ! 𝓣.C 𝓣.Λ En rest (at_ret En Post) $ sets ! (of_opd ! (get ! refl)) refl well $
    move ! (1 ∷ []) $ use0 𝓛 (‵ ((Marked E).own_val (tt, tt) (mark ∷ []))) (mark_made E 𝓛) $ fjoin !
    $
    move ! (1 ∷ []) $
    as_written ! (ty_array (elτ E) n) b o
    $ use1 𝓛 (‵ (slots (R E) b o cells.slots)) (of_room E 𝓛 b n o) $
    flt_i ! (length cells.slots * s) (2 ^ 63) (subst (λ k. k * s < 2 ^ 63)
    (sym (length-replicate n None)) asked.0) $ fjoin ! $
    use0 𝓛 (‵ ((Marked E).own_val (tt, tt) (mark ∷ []))) (mark_made E 𝓛) $ fjoin ! $ word_made ! p $
    use3 𝓛 (‵ (Three.own_val (link, cells, deed) (parts ∷ []))) (three_of 𝓛 (Lk E)
    (Cr E) Dd link cells deed (word p) mark mark) $
    use1 𝓛 (‵ (Out.own_val (Ok (link, cells, deed)) (live 0 (vcons parts vnil) ∷ [])))
    (ok_of 𝓛 Three Want.the_row (link, cells, deed) parts) $
    returns ! (look_at ! 0 refl) $ free_all ! refl $ keep ! (0 ∷ 1 ∷ 2 ∷ []) $
    out (Ok (link, cells, deed)) (live 0 (vcons parts vnil)) (refl, refl, refl, refl, refl))
    -- [the tokens]
    (λ e. let Refusal : RattleType = Struct (Declared.shape Want.the_type) in
    let refused : Val = live 1 (vcons (vstruct vnil) vnil) in
    lands_as ! e refl (Answer-typed false 0 0) $ first ! $
    switches_on ! (get_tag ! (vrt ! refl (fld ! refl (stop !))) (whole !)) $
    exec ! 𝓣.C 𝓣.Λ En (arm_body 1 asks) Then $
    sets ! (of_opd ! (get_in ! (vrt ! refl (fld ! refl (stop !)))
    (in_variant ! 1 0 refl refl (whole !)))) refl (tt, tt) $
    sets_last ! (agg ! (and_then ! (lit ! tt) (and_then ! (get ! refl)
    (no_more !)))) refl (tt, (record { fits = lit< tt }, (tt, tt))) $
    exec ! 𝓣.C 𝓣.Λ En rest (at_ret En Post) $
    sets ! (of_opd ! (get ! refl)) refl (tt, (record { fits = lit< tt }, (tt, tt))) $
    owned ! Refusal (Is Refusal) (Struct-Makes 𝓛 (Declared.shape Want.the_type) tt) tt
    (vstruct vnil ∷ [])
    (tt, (refl, tt)) $
    use1 𝓛 (‵ (Out.own_val (Err (record {})) (refused ∷ [])))
    (err_of 𝓛 Three Want.the_row (record {})
    (vstruct vnil)) $
    returns ! (look_at ! 0 refl) $ free_all ! refl $ keep ! (0 ∷ 1 ∷ 2 ∷ []) $
    out (Err (record {})) refused tt))))))))))
