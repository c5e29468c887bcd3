-- The pointer to a place that the block has. Assumes `Logic`.
use Rattle.wit_pool.proofs.Steps.{◌≡◌, refl, sym, ap, subst, ◌∙◌, ℕ, ◌+◌, ◌*◌, ◌<◌, ◌^◌, arith}
use Rattle.wit_pool.proofs.Steps.{List, [], ◌∷◌, ◌++◌, length, full_share, SProp, never, id⊢, ftrue}
use Rattle.wit_pool.proofs.Steps.{fat, flft, inst_fn, w64, Val, vint, vptr, WpFn, fact, tables, ◌⊑◌}
use Rattle.wit_pool.proofs.Steps.{‵, raw, ◌⊛◌, at_ret, ◌$◌, ◌∵◌, !, qed, move, keep, skip, split}
use Rattle.wit_pool.proofs.Steps.{fsplit, fjoin, feq_l, flt_l, rewrite, suffices, frame, done}
use Rattle.wit_pool.proofs.Steps.{whole, sub, agg, enter, size_lit, bin, stop, fld, of_opd}
use Rattle.wit_pool.proofs.Steps.{and_then, no_more, first, blocks, exec, returns, alloc_all}
use Rattle.wit_pool.proofs.Steps.{pass_all, free_all, look_at, get, get_in, sets, sets_last}
use Rattle.wit_pool.proofs.Steps.{take_at, give_at, env, yes, no, owns, layout, Ptr, block_ptr}
use Rattle.wit_pool.proofs.Steps.{in_a_block, RefOf, usize, plain, types_at, unhide, nothing, heard}
use Rattle.wit_pool.proofs.Steps.{Stays, stay_dropped, walk_of, says, ends_at, Goes-dropped}
use Rattle.wit_pool.proofs.Steps.{proved_at, after, word, word-Good, El, R, args, cells_lent, sz}
use Rattle.wit_pool.proofs.Steps.{word_had, word_made, spot, spot_at}
use Rattle.core.proofs.ptr.Rows.{one_below, times_below}
use Rattle.wit_pool.proofs.Memory.{Cr, Lk, at_words}
use Rattle.wit_pool.proofs.Spots.{spot-back}
use Rattle.wit_pool.specs.contracts.cells.Cells.link as f
use Rattle.wit_pool.proofs.cells.Cells.link.Statement.{statement}
use Rattle.wit_pool.proofs.cells.Cells.link.Code as code

pub link_spec : {M : Type 1} → statement M
link_spec 𝓤 𝓛 𝓜 𝓡 wired X LX =
    let E : El = record { row = X; laws = LX } in let s : ℕ = sz E in
    let 𝓣 = tables 𝓤 𝓛.H 𝓜 𝓡 𝓡.env in let fn = inst_fn (args E) code.function in
    let T = f.ended X in let c = f.clauses X 𝓛 𝓜.mem 𝓡.returns in
    let self = RefOf (0 ∷ []) tt (plain {n = 2} (λ _. Cr E)) (λ _. tt) in
    let hs : Stays T.signature.params T.kept = (
      stay_dropped self yes,
      (
        stay_dropped (plain (λ _. Lk E)) no,
        (stay_dropped (plain (λ _. usize)) yes, tt),
      ),
    ) in
    proved_at 𝓛 T hs c 𝓜 𝓡 (
      Goes-dropped 𝓛 2 self yes (λ κs x w. refl),
      (
        Goes-dropped 𝓛 2 (plain (λ _. Lk E)) no (λ κs x w. refl),
        (Goes-dropped 𝓛 2 (plain (λ _. usize)) yes (λ κs x w. refl), tt),
      ),
    )
    (f.Key.name (args E)) fn (code.unfolded 𝓤 𝓛.H 𝓜 𝓡 wired (X, tt)) (λ y are.
    let κs = y.0.0 in let qs = y.0.1 in let a = y.0.3 in let us = y.0.4 in
    let rb = a.0.ref_ptr.0 in let ro = a.0.ref_ptr.1 in let cs = a.0.now in let base = a.1.0 in
    let i : ℕ = a.1.1.0 in
    let Post : Val → SProp 𝓤 = (walk_of 𝓛 T hs c).post y in
    let Runs : List Val → SProp 𝓤 = λ ws. WpFn 𝓤 𝓛.H 𝓣.C 𝓣.Λ fn ws Post in
    let toks = ‵ (flft κs.0 qs.0) ⊛ (‵ (flft κs.1.0 qs.1.0) ⊛ ‵ ftrue) in
    qed 𝓛 ((toks ⊛ ‵ (owns (types_at T.signature.params κs) a us))
    ∷ (raw (fact 𝓤 (κs.1.0 ⊑ X.lives)) ⊛ raw (fact 𝓤 ((base.ptr ≡ cs.at) × (i < length cs.slots))))
    ∷ []) ∵
    move ! (1 ∷ []) $ split ! $ heard ! _ (λ short. heard ! _ (λ asked.
    split ! $ move ! (1 ∷ []) $ fsplit ! $ fsplit ! $ feq_l ! (λ e0. move ! (1 ∷ []) $ fsplit ! $
    word_had ! base.ptr us.1.0 (λ e1.
    fsplit ! $ fsplit ! $ feq_l ! (λ e2. flt_l ! (λ fits. skip ! $
    suffices ! (Runs (vptr rb ro ∷ word base.ptr ∷ vint w64 i ∷ []))
    (at_words 𝓤 Runs (λ j. e0 j ++ (e1 j ++ (e2 j ++ [])))) $
    enter ! _ _ _ _ _ $ alloc_all ! (λ l. pass_all ! refl (
      (tt, tt),
      (
        word-Good [] base.ptr,
        ((tt, record { fits = fits }), tt),
      ),
    ) $
    -- [what the owner lends; the tokens]
    unhide ! $ fsplit ! $ skip ! $
    in_a_block ! cs.at (λ p. cells_lent (R E) p cs.slots (κs.0)) (id⊢ 𝓤 (never 𝓤))
    (λ b o e. fsplit ! $
    flt_l ! (λ small.
    let tiny : s < 2 ^ 64 =
    omega (arith, one_below (length cs.slots) s (2 ^ 63) (omega arith) small) in
    let far : i * s < 2 ^ 64 =
    omega (arith, times_below i (length cs.slots) s (2 ^ 63) (omega arith) small) in
    let there : Ptr = block_ptr b (i * s + o) in
    let back : 0 < s → spot (R E) cs.at there ≡ i =
    subst (λ p. 0 < s → spot (R E) p there ≡ i) (sym e)
    (spot-back (R E) b o i) in
    take_at ! 2 $ rewrite ! 0 (λ (p : Ptr). ‵ (fat full_share (layout (Lk E)) (l 2) 0 (word p)))
    (asked.0 ∙ e) refl $ give_at ! 2 $
    first ! $ blocks ! $
    sets ! (bin ! (get ! refl) (size_lit ! (record { fits = tiny }))
    (record { fits = far })) refl (tt, record { fits = far }) $
    sets ! (bin ! (get_in ! (fld ! refl (stop !)) (sub ! 0 refl (whole !))) (get ! refl) tt)
    refl (tt, tt) $
    sets_last ! (agg ! (and_then ! (get ! refl) (no_more !))) refl (word-Good [] there) $
    exec ! 𝓣.C 𝓣.Λ (env fn.locals l) (after 1 fn.body) (at_ret _ Post) $
    sets ! (of_opd ! (get ! refl)) refl (word-Good [] there) $
    word_made ! there $ returns ! (look_at ! 0 refl) $ free_all ! refl $
    -- [the link; what was lent; the tokens]
    keep ! (2 ∷ 0 ∷ []) $
    suffices ! _ (ends_at 𝓛 T hs c y (word there) (record { ptr = there }) (tt, (tt, (tt, tt)))
    (tt, (tt, (tt, tt)))) $
    says ! (ap (λ p. spot_at (R E) p i) (sym e), back) $ frame ! $
    nothing ! $ nothing ! $ fjoin ! $ nothing ! $ fjoin ! $ nothing ! $ fjoin ! $ done !))))))))))
