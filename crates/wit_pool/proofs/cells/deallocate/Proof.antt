-- A block goes back as room, whatever its places hold. Assumes `Logic`.
use Rattle.wit_pool.proofs.Steps.{◌≡◌, refl, sym, ap, subst, ◌∙◌, ℕ, ◌*◌, ◌<◌, ◌^◌, arith, List, []}
use Rattle.wit_pool.proofs.Steps.{◌∷◌, ◌++◌, length, SProp, never, id⊢, Incl-trans, ftrue, flft}
use Rattle.wit_pool.proofs.Steps.{froom, inst_fn, ty_array, ty_unit, w64, Val, WT, has_ty, vint}
use Rattle.wit_pool.proofs.Steps.{vptr, vunit, WpFn, fact, tables, ◌⊑◌, ‵, raw, ◌⊛◌, given, later}
use Rattle.wit_pool.proofs.Steps.{at_ret, ◌$◌, ◌∵◌, !, qed, move, keep, skip, use1, split, join}
use Rattle.wit_pool.proofs.Steps.{fsplit, fjoin, feq_i, feq_l, flt_l, learn, await, rewrite}
use Rattle.wit_pool.proofs.Steps.{suffices, group, done, whole, sub, enter, unit_lit, size_word}
use Rattle.wit_pool.proofs.Steps.{align_word, bin, stop, fld, of_opd, and_then, no_more, first}
use Rattle.wit_pool.proofs.Steps.{blocks, exec, returns, alloc_all, pass_all, free_all, look_at}
use Rattle.wit_pool.proofs.Steps.{get, get_in, is, sets, lands_last, env, yes, no, RattleType, owns}
use Rattle.wit_pool.proofs.Steps.{Ptr, in_a_block, ptr_val, RefOf, usize, plain, types_at, nothing}
use Rattle.wit_pool.proofs.Steps.{heard, calls_at_last, framed, Stays, stay_dropped, walk_of}
use Rattle.wit_pool.proofs.Steps.{ends_at, Goes-dropped, proved_at, after, word, word-Good, as_raw}
use Rattle.wit_pool.proofs.Steps.{El, R, elτ, cells_own, sz, word_had}
use lib.Dec.{T as Holds}
use prog.Capped.{capped_fits}
use prog.Memory.{align, capped}
use denote.Triple.Clauses.{Ended}
use Rattle.core.proofs.alloc.Calls.{Al, Goes-blank, Gives, at_gives, Gives-goes, Gives-Gives, token}
use Rattle.core.proofs.slots.Leases.{uncapped, block_ty, block_size, block_align, args as both, P}
use Rattle.circular_buffer.specs.Ownership.{deed_owns}
use Rattle.wit_pool.proofs.Memory.{Cr, Lk, mark, mark_had, room_left, at_words}
use Rattle.wit_pool.specs.contracts.cells.Deed as Deeds
use Rattle.wit_pool.specs.contracts.cells.deallocate as f
use Rattle.wit_pool.proofs.cells.deallocate.Statement.{statement}
use Rattle.wit_pool.proofs.cells.deallocate.Code as code

pub deallocate_spec : {M : Type 1} → statement M
deallocate_spec 𝓤 𝓛 𝓜 𝓡 wired X W LX LW g d dd met md =
    let E : El = record { row = X; laws = LX } in let s : ℕ = sz E in
    let Z : Al = record { row = W; laws = LW; g = g; d = d; drops = dd } in
    let 𝓣 = tables 𝓤 𝓛.H 𝓜 𝓡 𝓡.env in let fn = inst_fn (both E Z) code.function in
    let T : Ended = f.ended X W g d dd in let c = f.clauses X W g d dd 𝓛 𝓜.mem 𝓡.returns in
    let Dd : RattleType = Deeds.the_row (R E) (P E Z) g in
    let lent = RefOf (0 ∷ []) tt (plain {n = 3} (λ _. P E Z)) (λ _. tt) in
    let hs : Stays T.signature.params T.kept = (
      stay_dropped lent yes,
      (
        stay_dropped (plain (λ _. Lk E)) no,
        (
          stay_dropped (plain (λ _. usize)) yes,
          (
            stay_dropped (plain (λ _. Cr E)) no,
            (stay_dropped (plain (λ _. Dd)) no, tt),
          ),
        ),
      ),
    ) in
    proved_at 𝓛 T hs c 𝓜 𝓡 (
      Goes-dropped 𝓛 3 lent yes (λ κs x w. refl),
      (
        Goes-dropped 𝓛 3 (plain (λ _. Lk E)) no (λ κs x w. refl),
        (
          Goes-dropped 𝓛 3 (plain (λ _. usize)) yes (λ κs x w. refl),
          (
            Goes-blank 𝓛 3 (plain (λ _. Cr E)) no (λ κs x w. tt),
            (Goes-blank 𝓛 3 (plain (λ _. Dd)) no (λ κs x w. tt), tt),
          ),
        ),
      ),
    )
    (f.Key.name (both E Z)) fn (code.unfolded 𝓤 𝓛.H 𝓜 𝓡 wired (X, (W, tt)) d dd) (λ y are.
    let κs = y.0.0 in let qs = y.0.1 in let a = y.0.3 in let us = y.0.4 in let κ =
    κs.0 in let q = qs.0 in
    let rb = a.0.ref_ptr.0 in let ro = a.0.ref_ptr.1 in let alloc = a.0.now in
    let base = a.1.0 in let n : ℕ = a.1.1.0 in let cells = a.1.1.1.0 in let deed = a.1.1.1.1.0 in
    let Post : Val → SProp 𝓤 = (walk_of 𝓛 T hs c).post y in
    let Runs : List Val → SProp 𝓤 = λ ws. WpFn 𝓤 𝓛.H 𝓣.C 𝓣.Λ fn ws Post in
    let others = ‵ (flft κs.1.0 qs.1.0) ⊛ (‵ (flft κs.1.1.0 qs.1.1.0) ⊛ ‵ ftrue) in
    let Asks : Type 0 = (cells.at ≡ base.ptr) × (length cells.slots ≡ n) × (deed.at ≡ base.ptr) ×
    (deed.len ≡ n) × (deed.alloc ≡ alloc) in
    qed 𝓛 (((‵ (flft κ q) ⊛ others) ⊛ ‵ (owns (types_at T.signature.params κs) a us))
    ∷ (raw (fact 𝓤 (κs.1.0 ⊑ X.lives)) ⊛ (raw (fact 𝓤 (κs.1.1.0 ⊑ W.lives)) ⊛ raw (fact 𝓤 Asks)))
    ∷ []) ∵
    move ! (1 ∷ []) $ split ! $ heard ! _ (λ short. split !
    $ heard ! _ (λ within. heard ! _ (λ asked.
    split ! $ move ! (1 ∷ []) $ fsplit ! $ fsplit ! $ feq_l ! (λ e0. move ! (1 ∷ []) $ fsplit ! $
    word_had ! base.ptr us.1.0 (λ e1.
    fsplit ! $ fsplit ! $ feq_l !
    (λ e2. flt_l ! (λ fits. fsplit ! $ fsplit ! $ mark_had ! E us.1.1.1.0 (λ e3.
    move ! (1 ∷ []) $ fsplit ! $ fsplit !
    $ mark_had ! E us.1.1.1.1.0 (λ e4. move ! (1 ∷ []) $ skip ! $
    -- [the deed; the places; the allocator; the tokens]
    move ! (1 ∷ 0 ∷ 2 ∷ 3 ∷ []) $ move ! (3 ∷ []) $ split ! $
    -- [the first token; the other ones; the places; the deed; the allocator]
    move ! (2 ∷ 3 ∷ 4 ∷ 0 ∷ 1 ∷ []) $
    suffices ! (Runs (vptr rb ro ∷ word base.ptr ∷ vint w64 n ∷ mark ∷ mark ∷ []))
    (at_words 𝓤 Runs (λ j. e0 j ++ (e1 j ++ (e2 j ++ (e3 j ++ (e4 j ++ [])))))) $
    enter ! _ _ _ _ _ $ alloc_all ! (λ l. pass_all ! refl (
      (tt, tt),
      (
        word-Good [] base.ptr,
        ((tt, record { fits = fits }), ((tt, (tt, tt)), ((tt, (tt, tt)), tt))),
      ),
    ) $
    rewrite ! 0 (λ (p : Ptr). ‵ (cells_own (R E) p cells.slots)) asked.0 refl $
    in_a_block ! base.ptr (λ p. cells_own (R E) p cells.slots) (id⊢ 𝓤 (never 𝓤))
    (λ b o e. fsplit ! $
    flt_l ! (λ fit.
    let bytes : n * s < 2 ^ 64 = omega (arith, subst (λ k. k * s < 2 ^ 63) asked.1 fit) in
    let al : ℕ = capped (align (elτ E)) in
    let G = Gives Z 𝓛 𝓜.mem 𝓡.returns in let z : G.Ghost =
    at_gives Z 𝓛 𝓜.mem 𝓡.returns κ q (rb, ro) alloc b o
    (n * s) al (block_ty E n) in
    rewrite ! 1 (λ (w : W.Denot × Ptr × ℕ). ‵ (deed_owns (R E) (token Z w.0) w.1 w.2))
    (λ j. (asked.4 j, (asked.2 ∙ e) j, asked.3 j)) refl $
    use1 𝓛 (‵ (froom (ty_array (elτ E) n) b o)) (room_left E 𝓛 b cells.slots n o asked.1) $
    as_raw ! (ty_array (elτ E) n) b o $
    first ! $ blocks ! $ sets ! (is !
    (of_opd ! (get_in ! (fld ! refl (stop !)) (sub ! 0 refl (whole !))))
    (ap ptr_val e)) refl (tt, tt) $
    sets ! (is ! (bin ! (get ! refl) (size_word !) (record {
      fits = subst (λ (k : ℕ). k < 2 ^ 64)
          (sym (uncapped n s bytes)) bytes;
    })) (ap (vint w64)
    (uncapped n s bytes))) refl (tt, record { fits = bytes }) $
    group ! 4 $ use1 𝓛 (raw (G.pre z)) (Gives-goes Z 𝓛 𝓜.mem 𝓡.returns κ q (rb, ro) alloc
    (Incl-trans y.0.2.0 within) b o (n * s) al (block_ty E n) (block_size E n bytes)
    (block_align E n) bytes (capped_fits (align (elτ E)))) $
    calls_at_last ! (framed 𝓤 𝓛.H 𝓜 𝓣) G (met.deallocate dd) z
    (and_then ! (get ! refl) (and_then ! (get ! refl)
    (and_then ! (get ! refl) (and_then ! (align_word !) (no_more !))))) (λ v.
    use1 𝓛 (later (given (v ≡ vunit) (‵ (flft κ q))))
    (Gives-Gives Z 𝓛 𝓜.mem 𝓡.returns κ q (rb, ro) alloc b o (n * s) al (block_ty E n) v)
    $ await ! tt $
    learn ! (λ gone.
    lands_last ! refl (subst (λ (w : Val). Holds (has_ty ty_unit w) × WT w) (sym gone) (tt, tt)) $
    exec ! 𝓣.C 𝓣.Λ (env fn.locals l) (after 1 fn.body) (at_ret _ Post) $
    sets ! (of_opd ! (unit_lit !)) refl (tt, tt) $
    returns ! (look_at ! 0 refl) $ free_all ! refl $
    -- [the tokens]
    keep ! (0 ∷ 1 ∷ []) $ join ! $
    suffices ! _ (ends_at 𝓛 T hs c y vunit tt (tt, (tt, (tt, (tt, (tt, tt)))))
    (tt, (tt, (tt, (tt, (tt, tt)))))) $
    feq_i ! (List Val) (vunit ∷ []) (vunit ∷ []) refl $ nothing ! $ nothing ! $ fjoin !
    $ nothing ! $ fjoin ! $
    nothing ! $ fjoin ! $ nothing ! $ fjoin ! $ nothing ! $ fjoin ! $
    join ! $ move ! (1 ∷ 0 ∷ []) $ join ! $ nothing ! $ move ! (1 ∷ 0 ∷ []) $ done !)))))))))))))))
