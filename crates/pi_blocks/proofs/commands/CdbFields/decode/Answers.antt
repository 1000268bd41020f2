use Rattle.std.proofs.Common.{rules, ◌≡◌, ap, Ok}
use Rattle.cdb_codec.specs.declared.command.Cdb.{Cdb}
use Rattle.pi_blocks.proofs.Forms.{found_says, says_of, same_fields}
use Rattle.pi_blocks.proofs.commands.CdbFields.decode.Goals as goal

pub returns-clause-found : goal.returns-clause-found
returns-clause-found c = (
  c.in_ok-decode-2.field-0,
  says_of c.in_ok-decode-2.field-0 c.of_cdb-2.result c.args.bytes.now _ c.of-places.result c.take-flags.result.0 c.take-flags.result.1 c.take-flags.result.2
      (c.in_ok-decode-2.ensures.found).0 (search rules) (search rules) c.of-places.ensures.behind (c.in_ok-decode-2.ensures.found).1 (search rules) c.take-flags.ensures.fit (search rules),
)

pub returns-in_err-decode-2-clause-only : goal.returns-in_err-decode-2-clause-only
returns-in_err-decode-2-clause-only c f h =
    let s = found_says f h.0 c.args.bytes.now c.of-places.result c.of-places.ensures.value h.1 in
    let e = c.in_err-decode-2.ensures.only h.0 h.1.fits (search rules) in
    search rules

pub returns-clause-only : goal.returns-clause-only
returns-clause-only c f h =
    let s = found_says f h.0 c.args.bytes.now c.of-places.result c.of-places.ensures.value h.1 in
    let e = c.in_ok-decode-2.ensures.only h.0 h.1.fits (search rules) in
    let same : ◌≡◌ {A = Cdb} c.in_ok-decode-2.field-0 h.0 = search rules in
    ap Ok (same_fields c.in_ok-decode-2.field-0 h.0 c.of_cdb-2.result f c.args.bytes.now c.take-flags.result.0 c.take-flags.result.1 c.take-flags.result.2 (search rules) same h.1 (search rules) (search rules) (search rules))
