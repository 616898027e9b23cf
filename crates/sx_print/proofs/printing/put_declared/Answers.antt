use Rattle.sx_print.proofs.Forms.{input_written, output_written, variable_written, array_written}
use Rattle.sx_print.proofs.printing.put_declared.Goals as goal

pub returns-in_ok-put-in-Input : goal.returns-in_ok-put-in-Input
returns-in_ok-put-in-Input c = input_written _ _ c.in-Input.is c.in_ok-put-in-Input.ensures c.put_name.ensures

pub returns-in_ok-put-in-Output : goal.returns-in_ok-put-in-Output
returns-in_ok-put-in-Output c = output_written _ _ c.in-Output.is c.in_ok-put-in-Output.ensures c.put_name-in-Output.ensures

pub returns-in_ok-put-in-Var-2 : goal.returns-in_ok-put-in-Var-2
returns-in_ok-put-in-Var-2 c = variable_written _ _ c.in-Var.is c.in_ok-put-in-Var.ensures c.in_ok-put_name-in-Var.ensures c.in_ok-put-in-Var-2.ensures c.put_number.ensures

pub returns-in_ok-put_number-in-Array : goal.returns-in_ok-put_number-in-Array
returns-in_ok-put_number-in-Array c = array_written _ _ c.in-Array.is c.in_ok-put-in-Array.ensures c.in_ok-put_name-in-Array.ensures
    c.in_ok-put-in-Array-2.ensures c.in_ok-put_number-in-Array.ensures c.put-in-Array-3.ensures
