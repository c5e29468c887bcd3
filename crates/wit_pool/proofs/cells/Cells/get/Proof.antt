-- What the place holds is lent. Assumes `Logic`.
use Rattle.wit_pool.proofs.Steps.{refl, ap, ◌∙◌, ℕ, ◌+◌, ◌*◌, List, [], ◌∷◌, ◌++◌, get_or}
use Rattle.wit_pool.proofs.Steps.{full_share, SProp, never, id⊢, ftrue, fat, flft, inst_fn, Val}
use Rattle.wit_pool.proofs.Steps.{vptr, WpFn, fact, tables, ◌⊑◌, ‵, raw, ◌⊛◌, at_ret, ◌$◌, ◌∵◌, ! }
use Rattle.wit_pool.proofs.Steps.{qed, move, keep, skip, use1, split, fsplit, fjoin, feq_i, feq_l}
use Rattle.wit_pool.proofs.Steps.{flt_l, rewrite, suffices, frame, done, whole, sub, enter, addr}
use Rattle.wit_pool.proofs.Steps.{from, stop, fld, hop, of_opd, first, blocks, exec, returns}
use Rattle.wit_pool.proofs.Steps.{alloc_all, pass_all, free_all, look_at, look_in_at, get, sets}
use Rattle.wit_pool.proofs.Steps.{sets_last, take_at, give_at, env, yes, no, owns, layout, Ptr}
use Rattle.wit_pool.proofs.Steps.{in_a_block, RefOf, plain, types_at, hide, unhide, nothing, heard}
use Rattle.wit_pool.proofs.Steps.{Stays, stay_dropped, walk_of, says, ends_at, Goes-dropped, None}
use Rattle.wit_pool.proofs.Steps.{proved_at, after, word, word-Good, El, R, args, slot_lent}
use Rattle.wit_pool.proofs.Steps.{cells_lent, Place, sz, word_had, filled_within, slot_seen, spot}
use Rattle.wit_pool.proofs.Steps.{spot_at, IsSpot}
use Rattle.wit_pool.proofs.Memory.{Cr, Lk, at_words}
use Rattle.wit_pool.specs.contracts.cells.Cells.get as f
use Rattle.wit_pool.proofs.cells.Cells.get.Statement.{statement}
use Rattle.wit_pool.proofs.cells.Cells.get.Code as code

pub get_spec : {M : Type 1} → statement M
get_spec 𝓤 𝓛 𝓜 𝓡 wired X LX =
    let E : El = record { row = X; laws = LX } in let s : ℕ = sz E in
    let 𝓣 = tables 𝓤 𝓛.H 𝓜 𝓡 𝓡.env in let fn = inst_fn (args E) code.function in
    let T = f.ended X in let c = f.clauses X 𝓛 𝓜.mem 𝓡.returns in
    let self = RefOf (0 ∷ []) tt (plain {n = 2} (λ _. Cr E)) (λ _. tt) in
    let hs : Stays T.signature.params T.kept = (
      stay_dropped self yes,
      (stay_dropped (plain (λ _. Lk E)) no, tt),
    ) in
    proved_at 𝓛 T hs c 𝓜 𝓡 (
      Goes-dropped 𝓛 2 self yes (λ κs x w. refl),
      (Goes-dropped 𝓛 2 (plain (λ _. Lk E)) no (λ κs x w. refl), tt),
    )
    (f.Key.name (args E)) fn (code.unfolded 𝓤 𝓛.H 𝓜 𝓡 wired (X, tt)) (λ y are.
    let κs = y.0.0 in let qs = y.0.1 in let a = y.0.3 in let us = y.0.4 in
    let rb = a.0.ref_ptr.0 in let ro = a.0.ref_ptr.1 in let cs = a.0.now in let link = a.1.0 in
    let Post : Val → SProp 𝓤 = (walk_of 𝓛 T hs c).post y in
    let Runs : List Val → SProp 𝓤 = λ ws. WpFn 𝓤 𝓛.H 𝓣.C 𝓣.Λ fn ws Post in
    let i : ℕ = spot (R E) cs.at link.ptr in
    let toks = ‵ (flft κs.0 qs.0) ⊛ (‵ (flft κs.1.0 qs.1.0) ⊛ ‵ ftrue) in
    qed 𝓛 ((toks ⊛ ‵ (owns (types_at T.signature.params κs) a us))
    ∷ (raw (fact 𝓤 (κs.1.0 ⊑ X.lives)) ⊛ raw (fact 𝓤 (IsSpot (R E) cs.at cs.slots link.ptr))) ∷ [])
    ∵
    move ! (1 ∷ []) $ split ! $ heard ! _ (λ short. heard ! _ (λ asked.
    let x = asked.1.0 in let within = filled_within cs.slots i x asked.1.1 in
    split ! $ move ! (1 ∷ []) $ fsplit ! $ fsplit ! $ feq_l ! (λ e0. move ! (1 ∷ []) $ fsplit ! $
    word_had ! link.ptr us.1.0 (λ e1. skip ! $
    suffices ! (Runs (vptr rb ro ∷ word link.ptr ∷ []))
    (at_words 𝓤 Runs (λ j. e0 j ++ (e1 j ++ []))) $
    enter ! _ _ _ _ _ $ alloc_all ! (λ l. pass_all ! refl ((tt, tt), (word-Good [] link.ptr, tt)) $
    -- [what the owner lends; the tokens]
    unhide ! $ fsplit ! $ skip ! $
    in_a_block ! cs.at (λ p. cells_lent (R E) p cs.slots (κs.0)) (id⊢ 𝓤 (never 𝓤))
    (λ b o e. fsplit ! $
    flt_l ! (λ small.
    take_at ! 2 $ rewrite ! 0 (λ (p : Ptr). ‵ (fat full_share (layout (Lk E)) (l 2) 0 (word p)))
    (asked.0 ∙ ap (λ p. spot_at (R E) p i) e) refl $
    give_at ! 2 $ use1 𝓛 (‵ (slot_lent (R E) b (i * s + o) (get_or cs.slots i None) (κs.0)))
    (slot_seen E 𝓛 b (κs.0) o cs.slots i within) $
    rewrite ! 0 (λ (p : Place E). ‵ (slot_lent (R E) b (i * s + o) p (κs.0))) asked.1.1 refl
    $ hide ! $
    first ! $ blocks ! $
    sets_last ! (addr ! (from ! (fld ! refl (hop ! (look_in_at ! 2 (sub ! 0 refl (whole !)))
    (stop !))))) refl (tt, tt) $
    exec ! 𝓣.C 𝓣.Λ (env fn.locals l) (after 1 fn.body) (at_ret _ Post) $
    sets ! (of_opd ! (get ! refl)) refl (tt, tt) $
    feq_i ! (List Val) (vptr b (i * s + o) ∷ []) (vptr b (i * s + o) ∷ []) refl $ fjoin ! $
    returns ! (look_at ! 0 refl) $ free_all ! refl $
    -- [the loan; the tokens]
    keep ! (1 ∷ 0 ∷ []) $
    suffices ! _ (ends_at 𝓛 T hs c y (vptr b (i * s + o))
    (record { ref_ptr = (b, i * s + o); now = x })
    (tt, (tt, tt)) (tt, (tt, tt))) $
    says ! asked.1.1 $ frame ! $ nothing ! $ nothing ! $ fjoin ! $ nothing ! $ fjoin !
    $ done !))))))))
