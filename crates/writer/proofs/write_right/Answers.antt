-- `writer::write_right` meets its contract: 15, or else the bank, which reads as what was taken.
-- Assumes nothing.
use mathlib.Core.Path.{◌≡◌, sym, ap, ◌∙◌}
use mathlib.Core.List.{List}
use Prim.Native.Nat.{ℕ, ◌≤◌}
use native.Mathlib.Omega.{arith}
use lib.ListN.{length, take}
use Rattle.std.specs.Prelude.{Ok}
use Rattle.arrays.specs.Read.{read_of}
use Rattle.arrays.specs.Encode.{encode}
use Rattle.arrays.specs.Write.{taken_of, after, write_of}
use Rattle.arrays.proofs.Taken.{fit_of}
use Rattle.arrays.proofs.Values.{settings-fit, patterns-fit, counts-fit}
use Rattle.arrays.proofs.Answers.{full-as, written_as}
use Rattle.arrays.proofs.Found.{size-counted}
use Rattle.arrays.proofs.Round.{reads-back}
use Rattle.writer.proofs.write_right.Goals as goal

pub shared_ref_as_front-count_steps : goal.shared_ref_as_front-count_steps
shared_ref_as_front-count_steps c = (fit_of c.args.settings c.args.ps c.requires).few

pub overflow_mul-size-2 : goal.overflow_mul-size-2
overflow_mul-size-2 c =
    let a = c.args in
    omega (arith, (size-counted a.settings a.ps (settings-fit a.settings _ c.well_formed.0) (patterns-fit a.ps _ c.well_formed.1.0) c.requires (counts-fit a.ps _ c.well_formed.1.0) c.count_steps.ensures).1)

pub overflow_add-size-2 : goal.overflow_add-size-2
overflow_add-size-2 c =
    let a = c.args in
    omega (arith, (size-counted a.settings a.ps (settings-fit a.settings _ c.well_formed.0) (patterns-fit a.ps _ c.well_formed.1.0) c.requires (counts-fit a.ps _ c.well_formed.1.0) c.count_steps.ensures).1)

pub overflow_cast-result : goal.overflow_cast-result
overflow_cast-result c =
    let a = c.args in
    omega (arith, (size-counted a.settings a.ps (settings-fit a.settings _ c.well_formed.0) (patterns-fit a.ps _ c.well_formed.1.0) c.requires (counts-fit a.ps _ c.well_formed.1.0) c.count_steps.ensures).1)

pub put_bank-requires : goal.put_bank-requires
put_bank-requires c =
    let a = c.args in
    let size = size-counted a.settings a.ps (settings-fit a.settings _ c.well_formed.0) (patterns-fit a.ps _ c.well_formed.1.0) c.requires (counts-fit a.ps _ c.well_formed.1.0) c.count_steps.ensures in
    record { right = c.requires; fits = omega (arith, size.0) }

pub returns-then-out-size-clause-out_after : goal.returns-then-out-size-clause-out_after
unfolding write_of
returns-then-out-size-clause-out_after c =
    let a = c.args in
    let size = size-counted a.settings a.ps (settings-fit a.settings _ c.well_formed.0) (patterns-fit a.ps _ c.well_formed.1.0) c.requires (counts-fit a.ps _ c.well_formed.1.0) c.count_steps.ensures in
    sym (full-as (encode a.settings (taken_of a.settings a.ps)) a.out.now c.requires (omega (arith, size.0)))

pub returns-clause-out_after : goal.returns-clause-out_after
unfolding write_of
returns-clause-out_after c =
    let a = c.args in
    let size = size-counted a.settings a.ps (settings-fit a.settings _ c.well_formed.0) (patterns-fit a.ps _ c.well_formed.1.0) c.requires (counts-fit a.ps _ c.well_formed.1.0) c.count_steps.ensures in
    (λ i. after (Ok (size.0 i)) (c.put_bank.ensures i)) ∙ sym (written_as (encode a.settings (taken_of a.settings a.ps)) a.out.now c.requires (omega (arith, size.0)))

pub returns-clause-reads_back : goal.returns-clause-reads_back
returns-clause-reads_back c =
    let a = c.args in
    let fit = settings-fit a.settings _ c.well_formed.0 in
    let all = patterns-fit a.ps _ c.well_formed.1.0 in
    let long = (size-counted a.settings a.ps fit all c.requires (counts-fit a.ps _ c.well_formed.1.0) c.count_steps.ensures).0 in
    let room : length (encode a.settings (taken_of a.settings a.ps)) ≤ length a.out.now = omega (arith, long) in
    λ count same.
    let e : _ ≡ count = cc in
    ap (λ (x : List ℕ). read_of (take count x)) c.put_bank.ensures ∙ reads-back a.settings a.ps fit all c.requires a.out.now count room (sym long ∙ e)
