-- How a refusal of a capture's records becomes a refusal of `judge`.
use Rattle.capture9.specs.declared.error.CaptureError.{CaptureError}
use Rattle.capture9.specs.declared.error.CaptureKind.{CaptureKind}
use Rattle.capture9.specs.declared.error.CaptureKind.TheVariants as kind
use Rattle.report9.specs.declared.error.JudgeError.{JudgeError}
use Rattle.report9.specs.declared.error.JudgeError.TheVariants as error

-- by its kind: want of memory becomes `OutOfMemory`, and every other refusal is handed on as it is
abbrev pub refusal_by : CaptureKind → CaptureError → JudgeError
refusal_by kind.OutOfMemory e = error.OutOfMemory
refusal_by _ e = error.Capture e

-- by the kind that it has
abbrev pub refusal_of : CaptureError → JudgeError
refusal_of e = refusal_by e.kind e
