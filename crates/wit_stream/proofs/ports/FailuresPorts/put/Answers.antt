use Rattle.std.proofs.Common.{◌+◌, ◌-◌, ℕ, List, Option, length, take, drop, arith, length-take}
use Rattle.std.proofs.Common.{length-drop}
use Rattle.std.proofs.lemmas.List.{take_rest}
use Rattle.std.proofs.Math.Seq.{take-add}
use Rattle.std.proofs.KnownBytes.{Appends-trans}
use Rattle.std.specs.Io.KnownBytes.{Appends}
use Rattle.wit_stream.proofs.ports.FailuresPorts.put.Goals as goal

-- what was taken of the rest continues what was taken before
Appends-more : (a b c : Option (List ℕ)) (bytes : List ℕ) (i n : ℕ) → Appends a b (take i bytes)
    → Appends b c (take n (take (length bytes - i) (drop i bytes)))
    → Appends a c (take (i + n) bytes)
Appends-more a b c bytes i n p q =
    rw (take-add i n bytes) (Appends-trans a b c _ _ p (rw take_rest at q))

pub loop-done-preserved : goal.loop-done-preserved
loop-done-preserved g c = record {
  within = omega (arith, length-take {A = ℕ}, length-drop {A = ℕ}, c.in-Ok.ensures.bound);
  written =
      Appends-more _ _ _ c.args.bytes.now _ _ c.loop-done.invariant.written c.in-Ok.ensures.bytes;
  looks = c.loop-done.invariant.looks;
  read = c.loop-done.invariant.read;
}
