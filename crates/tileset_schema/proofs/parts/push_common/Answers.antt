use Rattle.std.proofs.Common.{None, refl}
use Rattle.std.proofs.lemmas.Result.{err_from_is_err_and}
use Rattle.fixed_geometry.specs.Maps.{identity}
use Rattle.tileset_schema.specs.FirstSeen.{first_in}
use Rattle.tileset_schema.specs.Parts.{explicit}
use Rattle.tileset_schema.specs.PartsBy.{parts_by}
use Rattle.tileset_schema.specs.ValuesSeen.{values_seen}
use Rattle.tileset_schema.proofs.CommonTiles.{contents_fail, contents_read}
use Rattle.tileset_schema.proofs.parts.push_common.Goals as goal

pub returns-in_err-first : goal.returns-in_err-first
returns-in_err-first c =
    let p = err_from_is_err_and c.from_residual-in_err-first.result
    c.from_residual-in_err-first.ensures.1 in
    rw (p.1, p.2)
    (contents_fail c.args.base.now c.args.tile (values_seen c.args.own.now) c.in_ok-volume.volume
    c.in_ok-error.error c.in_ok-refine.refine c.requires
    c.in_ok-volume.ensures.value c.in_ok-error.ensures.value c.in_ok-refine.ensures
    c.in_err-first.field-0.0 c.in_err-first.ensures.value)

pub returns : goal.returns
returns c =
    let own = first_in c.in_ok-first.first in (
      parts_by c.in_ok-volume.volume None c.in_ok-error.error c.in_ok-refine.refine identity
          (explicit own),
      contents_read c.args.base.now c.args.tile (values_seen c.args.own.now) c.in_ok-volume.volume
          c.in_ok-error.error c.in_ok-refine.refine c.requires
          c.in_ok-volume.ensures.value c.in_ok-error.ensures.value c.in_ok-refine.ensures
          own c.in_ok-first.ensures.value,
      rw (
        c.in_ok-push.ensures.items,
        c.new.ensures,
        c.in_ok-rest.ensures.marks,
        c.in_ok-rest.ensures.size,
        c.in_ok-rest.ensures.volume,
        c.in_ok-rest.ensures.request,
        c.in_ok-rest.ensures.transform,
        c.in_ok-rest.ensures.more,
        c.in_ok-rest.ensures.implicit,
      ) refl,
    )
