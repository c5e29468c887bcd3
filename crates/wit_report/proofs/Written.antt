-- Pieces written one behind another make a text.
use Rattle.std.proofs.Common.{◌≡◌, ℕ, ◌+◌, ◌<◌, List, [], ◌∷◌, ◌++◌, length, get_or, drop, Option}
use Rattle.std.proofs.Common.{Some, ap, sym, ◌∙◌, append_assoc, codes}
use Rattle.std.proofs.lemmas.List.{at_drop_more}
use Rattle.wit_model.specs.declared.locks.TypeNo.{TypeNo}
use Rattle.wit_model.specs.declared.locks.Lock.{Lock}
use Rattle.wit_model.specs.declared.calls.LockAt.{LockAt}
use Rattle.wit_model.specs.Rules.Types.{name_of, type_name_of}
use Rattle.wit_model.specs.Rules.Orders.{origin_of}
use Rattle.wit_model.specs.Rules.Locks.{lock_at}
use Rattle.wit_model.specs.Rules.State.{Known}
use Rattle.wit_model.specs.Trace.Spelling.{quoted}
use Rattle.wit_model.specs.Trace.Texts.{class_words, site_words, lock_line, origin_words}
use Rattle.wit_model.specs.Trace.Texts.{order_line, order_lines, established}
use Rattle.wit_model.specs.Trace.Paths.{type_numbers}

-- pieces written one behind another make a line
pub order-written : {t1 t2 t3 t4 t5 t6 t7 : List ℕ} (t : List ℕ) (k : Known)
    (files : List (List ℕ)) (a b : ℕ)
    → t1 ≡ t ++ codes " " → t2 ≡ t1 ++ quoted (name_of a k.types) → t3 ≡ t2 ++ codes " -> "
    → t4 ≡ t3 ++ quoted (name_of b k.types) → t5 ≡ t4 ++ codes " @ "
    → t6 ≡ t5 ++ origin_words files (origin_of a b k.orders) → t7 ≡ t6 ++ 10 ∷ []
    → t7 ≡ t ++ order_line k files a b
order-written t k files a b e1 e2 e3 e4 e5 e6 e7 =
    behind7 t (codes " ") (quoted (name_of a k.types)) (codes " -> ")
    (quoted (name_of b k.types)) (codes " @ ")
    (origin_words files (origin_of a b k.orders)) (10 ∷ []) e1 e2 e3 e4 e5 e6 e7
  where
    behind7 : {u1 u2 u3 u4 u5 u6 u7 : List ℕ} (u p1 p2 p3 p4 p5 p6 p7 : List ℕ) → u1 ≡ u ++ p1
        → u2 ≡ u1 ++ p2 → u3 ≡ u2 ++ p3 → u4 ≡ u3 ++ p4 → u5 ≡ u4 ++ p5 → u6 ≡ u5 ++ p6
        → u7 ≡ u6 ++ p7
        → u7 ≡ u ++ (p1 ++ (p2 ++ (p3 ++ (p4 ++ (p5 ++ (p6 ++ p7))))))
    behind7 u p1 p2 p3 p4 p5 p6 p7 f1 f2 f3 f4 f5 f6 f7 =
        simp (f7, f6, f5, f4, f3, f2, f1, append_assoc)

pub lock-written : {t1 t2 t3 t4 t5 t6 t7 t8 t9 t10 t11 : List ℕ} (t : List ℕ) (locks : List Lock)
    (files : List (List ℕ)) (rank : List ℕ) (at : LockAt)
    → t1 ≡ t ++ codes " " → t2 ≡ t1 ++ rank → t3 ≡ t2 ++ codes " "
    → t4 ≡ t3 ++ quoted (lock_at locks at.lock.0).made.name → t5 ≡ t4 ++ codes " ("
    → t6 ≡ t5 ++ type_name_of (lock_at locks at.lock.0).made → t7 ≡ t6 ++ codes ", "
    → t8 ≡ t7 ++ class_words (lock_at locks at.lock.0).made.class → t9 ≡ t8 ++ codes ") @ "
    → t10 ≡ t9 ++ site_words files at.site → t11 ≡ t10 ++ 10 ∷ []
    → t11 ≡ t ++ lock_line locks files rank at
lock-written t locks files rank at e1 e2 e3 e4 e5 e6 e7 e8 e9 e10 e11 =
    behind11 t (codes " ") rank (codes " ") (quoted (lock_at locks at.lock.0).made.name)
    (codes " (") (type_name_of (lock_at locks at.lock.0).made) (codes ", ")
    (class_words (lock_at locks at.lock.0).made.class) (codes ") @ ") (site_words files at.site)
    (10 ∷ []) e1 e2 e3 e4 e5 e6 e7 e8 e9 e10 e11
  where
    behind11 : {u1 u2 u3 u4 u5 u6 u7 u8 u9 u10 u11 : List ℕ}
        (u p1 p2 p3 p4 p5 p6 p7 p8 p9 p10 p11 : List ℕ) → u1 ≡ u ++ p1 → u2 ≡ u1 ++ p2
        → u3 ≡ u2 ++ p3 → u4 ≡ u3 ++ p4 → u5 ≡ u4 ++ p5 → u6 ≡ u5 ++ p6
        → u7 ≡ u6 ++ p7 → u8 ≡ u7 ++ p8 → u9 ≡ u8 ++ p9 → u10 ≡ u9 ++ p10 → u11 ≡ u10 ++ p11
        → u11 ≡ u ++ (p1 ++ (p2 ++ (p3
        ++ (p4 ++ (p5 ++ (p6 ++ (p7 ++ (p8 ++ (p9 ++ (p10 ++ p11))))))))))
    behind11 u p1 p2 p3 p4 p5 p6 p7 p8 p9 p10 p11 f1 f2 f3 f4 f5 f6 f7 f8 f9 f10 f11 =
        simp (f11, f10, f9, f8, f7, f6, f5, f4, f3, f2, f1, append_assoc)

-- a path's lines, once the first of them is written
pub line-turn : (k : Known) (files : List (List ℕ)) (types : List TypeNo) (i : ℕ) (a b d : TypeNo)
    (t u : List ℕ)
    → i < length types → b ≡ get_or types i d → u ≡ t ++ order_line k files a.0 b.0
    → u ++ order_lines k files (b.0 ∷ type_numbers (drop (i + 1) types))
    ≡ t ++ order_lines k files (a.0 ∷ type_numbers (drop i types))
line-turn k files types i a b d t u lt here written =
    ap (λ x. x ++ order_lines k files (b.0 ∷ type_numbers (drop (i + 1) types))) written
    ∙ append_assoc t (order_line k files a.0 b.0)
    (order_lines k files (b.0 ∷ type_numbers (drop (i + 1) types)))
    ∙ ap (λ (c : TypeNo). t ++ (order_line k files a.0 c.0
    ++ order_lines k files (c.0 ∷ type_numbers (drop (i + 1) types)))) here
    ∙ sym (at_drop_more (λ rest. t ++ order_lines k files (a.0 ∷ type_numbers rest)) types i d lt)

pub established-written : {t1 t2 : List ℕ} (t : List ℕ) (k : Known) (files : List (List ℕ))
    (way items : List TypeNo) (p : Option (List ℕ))
    → Some (type_numbers items) ≡ p → t1 ≡ t ++ codes "established order:\n" → way ≡ items
    → t2 ≡ t1 ++ order_lines k files (type_numbers way)
    → t2 ≡ t ++ established k files p
established-written t k files way items p is e1 same e2 =
    e2 ∙ ap (λ x. x ++ order_lines k files (type_numbers way)) e1
    ∙ append_assoc t (codes "established order:\n") (order_lines k files (type_numbers way))
    ∙ ap (λ w. t ++ established k files (Some (type_numbers w))) same
    ∙ ap (λ o. t ++ established k files o) is
