-- `writer::put::put_bank` meets its contract: settings, pairs and bodies, one behind the other.
-- Assumes nothing.
use mathlib.Core.Path.{sym, ap, ◌∙◌}
use mathlib.Core.List.{List}
use Prim.Native.Nat.{ℕ, ◌+◌, ◌*◌}
use native.Mathlib.Omega.{arith}
use lib.Seq.{sets}
use Rattle.arrays.specs.Encode.{pairs_bytes, bodies_bytes}
use Rattle.arrays.specs.Write.{taken_of}
use Rattle.arrays.proofs.Values.{fours}
use Rattle.arrays.proofs.Sizes.{length-bodies, length-written, bank-parts}
use Rattle.arrays.proofs.Taken.{length_taken}
use Rattle.writer.proofs.put.put_bank.Goals as goal

pub put_settings-requires : goal.put_settings-requires
put_settings-requires c = omega (arith, c.requires.fits, length-written c.args.settings c.args.ps (fours c.args.settings _ c.well_formed.1.0))

pub put_pairs-requires : goal.put_pairs-requires
put_pairs-requires c = record {
  right = c.requires.right;
  fits = omega (arith, c.requires.fits, length-written c.args.settings c.args.ps (fours c.args.settings _ c.well_formed.1.0), c.put_settings.auto.out);
}

pub put_bodies-requires : goal.put_bodies-requires
put_bodies-requires c =
    let settings = c.args.settings in
    let ps = c.args.ps in
    let size = length-written settings ps (fours settings _ c.well_formed.1.0) in
    record {
      right = c.requires.right;
      fits = omega (arith, c.requires.fits, size, length_taken settings ps, length-bodies (taken_of settings ps), c.put_settings.auto.out, c.put_pairs.auto.out);
    }

pub returns : goal.returns
returns c =
    let settings = c.args.settings in
    let xs = taken_of settings c.args.ps in
    let n = settings.patterns in
    c.put_bodies.ensures
    ∙ ap (λ (x : List ℕ). sets x (45 + 4 * n) (bodies_bytes xs))
    (c.put_pairs.ensures ∙ ap (λ (x : List ℕ). sets x 45 (pairs_bytes (45 + 4 * n) xs)) c.put_settings.ensures)
    ∙ sym (bank-parts settings xs n c.args.out.now (fours settings _ c.well_formed.1.0) (length_taken settings c.args.ps))
